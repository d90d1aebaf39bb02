use Rattle.std.proofs.Common.{◌≡◌, replicate}
use Rattle.place_plan.proofs.image.zeros.Given as goal

abbrev pub invariant-loop-n : goal.invariant-loop-n
invariant-loop-n l = l.bytes.items ≡ replicate l._n 0
