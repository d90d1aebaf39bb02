use Rattle.std.proofs.Common.{◌≡◌, ◌++◌, drop}
use Rattle.c_emit_functions.specs.Parameters.{privates_standing}
use Rattle.c_emit_functions.proofs.values.push_privates.Given as goal

abbrev pub invariant-loop-standing : goal.invariant-loop-standing
invariant-loop-standing l =
    l.bounds ++ privates_standing (drop l.standing-index l.standings) ≡ l.initial.bounds ++ privates_standing l.standings
