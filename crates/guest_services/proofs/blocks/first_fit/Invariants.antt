use Rattle.std.proofs.Common.{◌≡◌, ℕ, ◌<◌, slice_index_or, false}
use Rattle.guest_services.specs.declared.blocks.Block.{Block as HeapBlock}
use Rattle.guest_services.specs.Blocks.{is_fit}
use Rattle.guest_services.proofs.blocks.first_fit.Given as goal

abbrev pub invariant-loop-i : goal.invariant-loop-i
invariant-loop-i l = (k : ℕ) (d : HeapBlock) → k < l.i → is_fit l.n (slice_index_or l.blocks k d) ≡ false
