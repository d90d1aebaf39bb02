use Rattle.std.proofs.Common.{◌≡◌, ◌+◌, ◌-◌, ◌%◌, ◌<◌, ◌≤◌, ◌⊎◌, length}
use Rattle.paged_memory.specs.Touched.{touched_by}
use Rattle.paged_memory.specs.Frames.{pages_in}
use Rattle.paged_memory.proofs.slots.missing.Given as goal

abbrev pub invariant-loop-at : goal.invariant-loop-at
invariant-loop-at l = record {
  within : l.at ≤ l.n;
  few : l.need ≤ l.at;
  counted : length (pages_in l.slots) + l.need ≡ length (touched_by l.at l.a (pages_in l.slots));
  edge : l.at < l.n → (l.at ≡ 0) ⊎ ((l.a + l.at) % 4096 ≡ 0);
}

abbrev pub decreases-loop-at : goal.decreases-loop-at
decreases-loop-at l = l.n - l.at
