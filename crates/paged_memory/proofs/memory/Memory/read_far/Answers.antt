use Rattle.std.specs.Prelude.{length}
use Rattle.std.proofs.Common.{◌≡◌, ◌∙◌, sym, ap, subst, true, ℕ, ◌≤◌}
use Rattle.mx_base.specs.Memory.{list_at}
use Rattle.paged_memory.specs.Paged.{bytes_of}
use Rattle.paged_memory.specs.Frames.{frame_in, byte_under}
use Rattle.paged_memory.proofs.Regions.{run_end_covers, readable_past, readable_all}
use Rattle.paged_memory.proofs.Answered.{read_refused, read_allowed}
use Rattle.paged_memory.proofs.View.{bytes_of-paged_of}
use Rattle.paged_memory.proofs.memory.Memory.read_far.Goals as goal

pub overflow_sub-end : goal.overflow_sub-end
overflow_sub-end c = subst (λ (e : ℕ). c.args.a ≤ e) (sym c.any_end-end.ensures.end) (run_end_covers (λ r. true) c.args.a).0

pub returns-then-buf-end-clause-answer : goal.returns-then-buf-end-clause-answer
returns-then-buf-end-clause-answer c =
    sym (read_refused (length c.args.buf.now) c.args.a c.any_end-end.result (readable_past (length c.args.buf.now) c.args.a c.any_end-end.result c.any_end-end.ensures.end c.if-buf-end.true))

pub returns-clause-answer : goal.returns-clause-answer
returns-clause-answer c =
    sym (read_allowed (length c.args.buf.now) c.args.a (readable_all (length c.args.buf.now) c.args.a c.any_end-end.result c.any_end-end.ensures.end c.if-buf-end.false))

pub returns-clause-done : goal.returns-clause-done
returns-clause-done c =
    let slots = sym c.deref.ensures.value in
    let frames = sym c.deref-2.ensures.value in
    let seen : bytes_of c.args.self.now ≡ byte_under (frame_in c.deref.result.now) c.deref-2.result.now =
    ap bytes_of (sym c.self.view_is) ∙ bytes_of-paged_of _ _ _ ∙ (λ i. byte_under (frame_in (slots i)) (frames i)) in
    c.copy_out.ensures ∙ ap (λ m. list_at (length c.args.buf.now) m c.args.a) (sym seen)
