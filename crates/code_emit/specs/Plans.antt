-- What the code of a function goes by, of the parts that are passed around.
use Rattle.std.specs.Prelude.{false, if◌then◌else◌, slice_index_or, List, map}
use Rattle.fat_ir.specs.Step.{ObjectAt, FunctionAt}
use Rattle.step_code.specs.declared.homes.Home.TheVariants.{Reg}
use Rattle.step_code.specs.Steps.{Plan}
use Rattle.fat_ir.specs.Functions.{Parameter}
use Rattle.code_emit.specs.declared.homing.Parameter.{Parameter as HeldParameter}
use Rattle.code_emit.specs.declared.plan.FunctionPlan.{FunctionPlan}

-- before linking each symbol stands at 0
abbrev pub plan_of : FunctionPlan → Plan
plan_of q = record {
  home = λ v. slice_index_or q.homes.now v (Reg 7);
  is_bounds = λ v. slice_index_or q.bounds.now v false;
  spare = q.spare;
  exit = q.exit;
  pointer = q.pointer;
  located = λ s. if slice_index_or q.functions.now s false then FunctionAt 0 else ObjectAt 0;
}

abbrev pub parameter_of : HeldParameter → Parameter
parameter_of q = record { private = q.private; pointer = q.pointer }

abbrev pub parameters_of : List HeldParameter → List Parameter
parameters_of qs = map parameter_of qs
