use Rattle.std.proofs.Common.{◌≡◌, ◌++◌}
use Rattle.bounds_plan.specs.steps.Code.{in_turn}
use Rattle.c_emit_functions.proofs.values.push_pairs.Given as goal

-- the pairs that are there and those that are left are all
abbrev pub invariant-loop-left : goal.invariant-loop-left
invariant-loop-left l = l.bounds ++ in_turn l.left ≡ l.initial.bounds ++ in_turn l.pairs

abbrev pub decreases-loop-left : goal.decreases-loop-left
decreases-loop-left l = l.left
