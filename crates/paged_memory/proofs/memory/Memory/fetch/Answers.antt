use Rattle.std.specs.Prelude.{length}
use Rattle.std.proofs.Common.{◌≡◌, ◌∙◌, sym, ap, arith, subst, ℕ, ◌≤◌, ◌<◌, ◌++◌, take, drop, length-take-le}
use Rattle.mx_base.specs.Memory.{list_at}
use Rattle.paged_memory.specs.Paged.{bytes_of}
use Rattle.paged_memory.specs.Frames.{frame_in, byte_under}
use Rattle.paged_memory.proofs.Regions.{run_end_covers}
use Rattle.paged_memory.proofs.Answered.{fetch_refused, fetch_done}
use Rattle.paged_memory.proofs.View.{bytes_of-paged_of}
use Rattle.paged_memory.proofs.memory.Memory.fetch.Goals as goal

pub returns-then-end-a-clause-answer : goal.returns-then-end-a-clause-answer
returns-then-end-a-clause-answer c = sym (fetch_refused c.args.a c.code_end-end.result c.code_end-end.ensures.end c.if-end-a.true)

pub overflow_sub-end : goal.overflow_sub-end
overflow_sub-end c = subst (λ (e : ℕ). c.args.a ≤ e) (sym c.code_end-end.ensures.end) (run_end_covers (λ r. r.execute) c.args.a).0

pub returns-clause-answer : goal.returns-clause-answer
returns-clause-answer c =
    let from = subst (λ (e : ℕ). c.args.a ≤ e) (sym c.code_end-end.ensures.end) (run_end_covers (λ r. r.execute) c.args.a).0 in
    let other = c.if-end-a.false in
    let below : c.args.a < c.code_end-end.result = omega (arith, from, other) in
    fetch_done c.args.a c.code_end-end.result c.min-n.result c.code_end-end.ensures.end below c.min-n.ensures

pub returns-clause-done : goal.returns-clause-done
returns-clause-done c =
    let slots = sym c.deref.ensures.value in
    let frames = sym c.deref-2.ensures.value in
    let seen : bytes_of c.args.self.now ≡ byte_under (frame_in c.deref.result.now) c.deref-2.result.now =
    ap bytes_of (sym c.self.view_is) ∙ bytes_of-paged_of _ _ _ ∙ (λ i. byte_under (frame_in (slots i)) (frames i)) in
    let few : c.min-n.result ≤ 15 = omega arith in
    let long : length (take c.min-n.result c.args.buf.now) ≡ c.min-n.result = length-take-le c.min-n.result c.args.buf.now (omega arith) in
    let copied = c.copy_out.ensures ∙ (λ i. list_at (long i) (sym seen i) c.args.a) in
    λ i. copied i ++ drop c.min-n.result c.args.buf.now
