use Rattle.std.specs.Prelude.{length}
use Rattle.std.proofs.Common.{◌∙◌, sym, ap, arith, ℕ, ◌+◌, ◌*◌, ◌/◌, ◌%◌, ◌≤◌, subst, List}
use Rattle.mx_base.specs.Memory.{with_list}
use Rattle.paged_memory.specs.Touched.{touched_with}
use Rattle.paged_memory.specs.Frames.{frame_in, pages_in, byte_under, IsSound, HasFrame}
use Rattle.paged_memory.specs.declared.slots.Slot.{Slot}
use Rattle.paged_memory.proofs.PageBytes.{put_at-under}
use Rattle.paged_memory.proofs.SlotLists.{length-pages_in, sound_put, lie_within}
use Rattle.paged_memory.proofs.frames.put_page.Goals as goal

few_of : (old new : List Slot) (page frame capacity : ℕ) → HasFrame old new page frame → length (touched_with page (pages_in old)) ≤ capacity → length new ≤ capacity
few_of old new page frame capacity has room =
    let pages = ap length has.pages in
    let same = length-pages_in new in
    omega (arith, pages, same)

pub put_part-requires : goal.put_part-requires
put_part-requires c =
    let has = c.frame_for-frame.ensures.frame in
    let sound = has.sound c.args.frames.now c.args.capacity c.requires.sound (few_of _ _ _ _ c.args.capacity has c.requires.room) in
    let within = lie_within c.frame_for-frame.new.slots.items c.args.frames.now c.args.capacity (c.args.a / 4096) c.frame_for-frame.result sound has.there in
    let inside = c.requires.inside in
    omega (arith, within, inside)

pub returns-clause-sound : goal.returns-clause-sound
returns-clause-sound c =
    let has = c.frame_for-frame.ensures.frame in
    let sound = has.sound c.args.frames.now c.args.capacity c.requires.sound (few_of _ _ _ _ c.args.capacity has c.requires.room) in
    let low = sound.below (c.args.a / 4096) c.frame_for-frame.result has.there in
    let inside = c.requires.inside in
    subst (λ (f : List ℕ). IsSound c.frame_for-frame.new.slots.items f c.args.capacity) (sym c.put_part.ensures)
    (sound_put c.frame_for-frame.new.slots.items c.args.frames.now c.args.capacity (c.frame_for-frame.result * 4096 + c.args.a % 4096) c.args.bytes.now (omega (arith, low, inside)) sound)

pub returns-clause-bytes : goal.returns-clause-bytes
returns-clause-bytes c =
    let has = c.frame_for-frame.ensures.frame in
    let sound = has.sound c.args.frames.now c.args.capacity c.requires.sound (few_of _ _ _ _ c.args.capacity has c.requires.room) in
    let within = lie_within c.frame_for-frame.new.slots.items c.args.frames.now c.args.capacity (c.args.a / 4096) c.frame_for-frame.result sound has.there in
    ap (byte_under (frame_in c.frame_for-frame.new.slots.items)) c.put_part.ensures
    ∙ put_at-under (frame_in c.frame_for-frame.new.slots.items) c.args.frames.now c.args.bytes.now c.args.a c.frame_for-frame.result sound.apart has.there within c.requires.inside
    ∙ ap (λ m. with_list m c.args.a c.args.bytes.now) (has.same c.args.frames.now c.args.capacity c.requires.sound)
