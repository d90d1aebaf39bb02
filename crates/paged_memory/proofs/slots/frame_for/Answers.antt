use Rattle.std.specs.Prelude.{length}
use Rattle.std.proofs.Common.{◌∙◌, sym, ap, arith, ℕ, subst, List}
use Rattle.paged_memory.specs.declared.slots.Slot.{Slot}
use Rattle.paged_memory.specs.Frames.{frame_in, HasFrame}
use Rattle.paged_memory.proofs.SlotLists.{has_old_frame, has_new_frame, length-touched_new}
use Rattle.paged_memory.proofs.slots.frame_for.Goals as goal

pub overflow_cast-frame : goal.overflow_cast-frame
overflow_cast-frame c =
    let away = ap (λ xs. frame_in xs c.args.page) (sym c.deref.ensures.value) ∙ sym c.frame_of.ensures ∙ c.in-None.is in
    let long = length-touched_new c.args.slots.now.items c.args.page away in
    let count = ap length c.as_slice.ensures.value in
    let few = c.requires.few in
    omega (arith, long, count, few)

pub touch-requires-clause-room : goal.touch-requires-clause-room
touch-requires-clause-room c =
    let away = ap (λ xs. frame_in xs c.args.page) (sym c.deref.ensures.value) ∙ sym c.frame_of.ensures ∙ c.in-None.is in
    let long = length-touched_new c.args.slots.now.items c.args.page away in
    let room = c.requires.room in
    omega (arith, long, room)

pub touch-requires-clause-few : goal.touch-requires-clause-few
touch-requires-clause-few c =
    let away = ap (λ xs. frame_in xs c.args.page) (sym c.deref.ensures.value) ∙ sym c.frame_of.ensures ∙ c.in-None.is in
    let long = length-touched_new c.args.slots.now.items c.args.page away in
    let few = c.requires.few in
    omega (arith, long, few)

pub returns-in-Some-clause-frame : goal.returns-in-Some-clause-frame
returns-in-Some-clause-frame c = has_old_frame c.args.slots.now.items c.args.page c.in-Some.frame (ap (λ xs. frame_in xs c.args.page) (sym c.deref.ensures.value) ∙ sym c.frame_of.ensures ∙ c.in-Some.is)

pub returns-in-None-clause-frame : goal.returns-in-None-clause-frame
returns-in-None-clause-frame c =
    let away = ap (λ xs. frame_in xs c.args.page) (sym c.deref.ensures.value) ∙ sym c.frame_of.ensures ∙ c.in-None.is in
    let count = ap length c.as_slice.ensures.value in
    subst (λ (n : ℕ). HasFrame c.args.slots.now.items c.touch.new.slots.items c.args.page n) (sym count)
    (subst (λ (xs : List Slot). HasFrame c.args.slots.now.items xs c.args.page (length c.args.slots.now.items)) (sym c.touch.ensures.items)
    (has_new_frame c.args.slots.now.items c.args.page away))
