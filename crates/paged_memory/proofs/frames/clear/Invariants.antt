use Rattle.std.proofs.Common.{◌≡◌, replicate, take}
use Rattle.paged_memory.proofs.frames.clear.Given as goal

abbrev pub invariant-loop-b : goal.invariant-loop-b
invariant-loop-b l = take l.b-index l.buf ≡ replicate l.b-index 0
