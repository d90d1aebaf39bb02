use Rattle.std.proofs.Common.{◌≡◌, ◌++◌, drop}
use Rattle.steps_pieces.proofs.calls.sorts.Given as goal

-- what is copied and what is left are all
abbrev pub invariant-loop-sort : goal.invariant-loop-sort
invariant-loop-sort l = l.copied ++ drop l.sort-index l.all ≡ l.all
