use Rattle.std.proofs.Common.{◌≡◌, ◌++◌, drop}
use Rattle.bounds_plan.specs.steps.Code.{arrived}
use Rattle.c_emit_functions.specs.Parameters.{parameters_of}
use Rattle.c_emit_functions.proofs.values.push_arrived.Given as goal

abbrev pub invariant-loop-parameter : goal.invariant-loop-parameter
invariant-loop-parameter l =
    l.bounds ++ arrived (parameters_of (drop l.parameter-index l.parameters)) ≡ l.initial.bounds ++ arrived (parameters_of l.parameters)
