-- What is passed of a function whose code is put.
use Rattle.std.specs.Prelude.{ℕ, false, Bool, slice_index_or, replicate}
use Rattle.code_emit.specs.Plans.{plan_of, parameters_of}
use Rattle.unit_object.specs.declared.functions.UnitFunction.{UnitFunction}
use Rattle.unit_object.specs.Units.{Coded}

-- its labels begin at 0; no code asks for the spans of its values
abbrev pub coded_of : UnitFunction → Coded
coded_of q = record {
  fun = q.fun.now;
  plan = plan_of q.plan;
  parameters = parameters_of q.parameters.now;
  units = q.units;
  labels = replicate q.labels 0;
  first = λ v. 0;
  last = λ v. 0;
}

abbrev pub is_function_of : UnitFunction → ℕ → Bool
is_function_of q s = slice_index_or q.plan.functions.now s false
