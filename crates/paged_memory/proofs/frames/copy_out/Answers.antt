use Rattle.std.specs.Prelude.{length}
use Rattle.std.proofs.Common.{◌≡◌, ◌∙◌, sym, ap, arith, ◌+◌, ◌++◌}
use Rattle.mx_base.specs.Memory.{list_at}
use Rattle.paged_memory.specs.Frames.{frame_in, byte_under}
use Rattle.paged_memory.proofs.PageBytes.{list_at-add}
use Rattle.paged_memory.proofs.frames.copy_out.Goals as goal

pub returns-else-buf-first : goal.returns-else-buf-first
returns-else-buf-first c =
    let m = byte_under (frame_in c.args.slots.now) c.args.frames.now in
    let front = length c.split_at_mut-front.result.0.now in
    let back = length c.split_at_mut-front.result.1.now in
    let first = c.split_at_mut-front.ensures.front_len in
    let rest = c.split_at_mut-front.ensures.back_len in
    let whole : length c.split_at_mut-front.result.0.now + length c.split_at_mut-front.result.1.now ≡ length c.args.buf.now = omega (arith, first, rest) in
    (λ i. c.copy_page-else-buf-first.ensures i ++ c.copy_page-else-buf-first-2.ensures i)
    ∙ ap (λ n. list_at (length c.split_at_mut-front.result.0.now) (byte_under (frame_in c.args.slots.now) c.args.frames.now) c.args.a
    ++ list_at (length c.split_at_mut-front.result.1.now) (byte_under (frame_in c.args.slots.now) c.args.frames.now) (c.args.a + n)) (sym first)
    ∙ sym (list_at-add (length c.split_at_mut-front.result.0.now) (length c.split_at_mut-front.result.1.now) (byte_under (frame_in c.args.slots.now) c.args.frames.now) c.args.a)
    ∙ ap (λ n. list_at n (byte_under (frame_in c.args.slots.now) c.args.frames.now) c.args.a) whole
