use Rattle.std.proofs.Common.{◌≡◌, ◌++◌, drop}
use Rattle.bounds_plan.specs.steps.Code.{arrivals}
use Rattle.c_emit_functions.specs.Parameters.{parameters_of}
use Rattle.c_emit_functions.proofs.arrivals.put_arrivals.Given as goal

abbrev pub invariant-loop-parameter : goal.invariant-loop-parameter
invariant-loop-parameter l =
    l.steps ++ arrivals (parameters_of (drop l.parameter-index l.parameters)) l.at l.d
    ≡ l.initial.steps ++ arrivals (parameters_of l.parameters) l.first l.d
