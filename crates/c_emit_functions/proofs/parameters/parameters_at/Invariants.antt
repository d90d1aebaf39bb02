use Rattle.std.proofs.Common.{◌≡◌, ◌++◌, drop}
use Rattle.c_emit_functions.specs.Parameters.{parameters_of, parameters_standing}
use Rattle.c_emit_functions.proofs.parameters.parameters_at.Given as goal

abbrev pub invariant-loop-sort : goal.invariant-loop-sort
invariant-loop-sort l =
    parameters_of l.all ++ parameters_standing (drop l.sort-index l.sorts) l.left ≡ parameters_standing l.sorts l.standings
