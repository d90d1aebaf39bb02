use Rattle.std.specs.Prelude.{length}
use Rattle.std.proofs.Common.{◌≡◌, ◌∙◌, sym, ap, arith, take, drop, ◌+◌, ◌-◌, ◌*◌, ◌%◌, ◌/◌}
use Rattle.paged_memory.specs.Frames.{frame_in}
use Rattle.paged_memory.proofs.PageBytes.{list_of_frame, list_of_none}
use Rattle.paged_memory.proofs.frames.copy_page.Goals as goal

pub returns-in-None : goal.returns-in-None
returns-in-None c = c.clear.ensures ∙ sym (list_of_none (length c.args.buf.now) (frame_in c.args.slots.now) c.args.frames.now c.args.a c.requires.inside (sym c.frame_of.ensures ∙ c.in-None.is))

pub returns-in-Some : goal.returns-in-Some
returns-in-Some c =
    let there = sym c.frame_of.ensures ∙ c.in-Some.is in
    let at = c.in-Some.frame * 4096 + c.args.a % 4096 in
    let long : c.in-Some.frame * 4096 + c.args.a % 4096 + length c.args.buf.now - (c.in-Some.frame * 4096 + c.args.a % 4096) ≡ length c.args.buf.now = omega arith in
    c.copy_from_slice.ensures.after
    ∙ ap (λ n. take n (drop (c.in-Some.frame * 4096 + c.args.a % 4096) c.args.frames.now)) long
    ∙ sym (list_of_frame (length c.args.buf.now) (frame_in c.args.slots.now) c.args.frames.now c.args.a c.in-Some.frame c.requires.inside there (c.requires.within (c.args.a / 4096) c.in-Some.frame there))
