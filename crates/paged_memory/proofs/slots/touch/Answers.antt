use Rattle.std.specs.Prelude.{length, slice_index_or, nat_lt, true, false}
use Rattle.std.proofs.Common.{◌≡◌, ◌∙◌, ap, ℕ, ◌<◌, ◌≤◌, subst, List}
use Rattle.paged_memory.specs.declared.slots.Slot.{Slot}
use Rattle.paged_memory.specs.Frames.{slot_placed}
use Rattle.paged_memory.proofs.SlotLists.{insert_placed}
use Rattle.paged_memory.proofs.slots.touch.Goals as goal

pub returns-clause-items : goal.returns-clause-items
returns-clause-items c =
    let items = c.args.slots.now.items in
    let seen = c.deref.ensures.value in
    let count = ap length c.as_slice.ensures.value in
    c.in-Ok.ensures.items
    ∙ insert_placed c.args.slots.now.items record { page = c.args.page; frame = length c.as_slice.result.now } c.place_of-at.result
    (subst (λ (xs : List Slot). c.place_of-at.result ≤ length xs) seen c.place_of-at.ensures.within)
    (subst (λ (xs : List Slot). (k : ℕ) (d : Slot) → k < c.place_of-at.result → nat_lt c.args.page (slice_index_or xs k d).page ≡ false) seen c.place_of-at.ensures.before)
    (subst (λ (xs : List Slot). (d : Slot) → c.place_of-at.result < length xs → nat_lt c.args.page (slice_index_or xs c.place_of-at.result d).page ≡ true) seen c.place_of-at.ensures.here)
    ∙ ap (λ n. slot_placed record { page = c.args.page; frame = n } c.args.slots.now.items) count
