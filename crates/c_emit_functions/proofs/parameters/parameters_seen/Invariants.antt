use Rattle.std.proofs.Common.{◌≡◌, ◌++◌, drop}
use Rattle.bounds_plan.specs.steps.Code.{fat_parameters}
use Rattle.code_emit.specs.Plans as held
use Rattle.c_emit_functions.specs.Parameters.{parameters_of}
use Rattle.c_emit_functions.proofs.parameters.parameters_seen.Given as goal

abbrev pub invariant-loop-parameter : goal.invariant-loop-parameter
invariant-loop-parameter l =
    held.parameters_of l.all ++ fat_parameters (parameters_of (drop l.parameter-index l.parameters))
    ≡ fat_parameters (parameters_of l.parameters)
