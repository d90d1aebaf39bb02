use Rattle.std.specs.Prelude.{length}
use Rattle.std.proofs.Common.{sym, subst, true, ℕ, ◌≤◌, Result}
use Rattle.mx_base.specs.Memory.{Bytes}
use Rattle.paged_memory.specs.declared.stops.MemStop.{MemStop}
use Rattle.paged_memory.specs.Paged.{bytes_of}
use Rattle.paged_memory.specs.Answers.{Writes}
use Rattle.paged_memory.proofs.Regions.{run_end_covers, readable_past, readable_all}
use Rattle.paged_memory.proofs.Answered.{place_refused, place_allowed}
use Rattle.paged_memory.proofs.memory.Memory.place.Goals as goal

pub overflow_sub-end : goal.overflow_sub-end
overflow_sub-end c = subst (λ (e : ℕ). c.args.a ≤ e) (sym c.any_end-end.ensures.end) (run_end_covers (λ r. true) c.args.a).0

pub returns-then-bytes-end-clause-answer : goal.returns-then-bytes-end-clause-answer
returns-then-bytes-end-clause-answer c =
    place_refused c.args.bytes.now (bytes_of c.args.self.now) c.args.a c.any_end-end.result (readable_past (length c.args.bytes.now) c.args.a c.any_end-end.result c.any_end-end.ensures.end c.if-bytes-end.true)

pub returns-clause-answer : goal.returns-clause-answer
returns-clause-answer c =
    subst (λ (w : Result Bytes MemStop). Writes (length c.args.bytes.now) c.args.a w c.args.self.now c.put_in.new.self c.put_in.result)
    (sym (place_allowed c.args.bytes.now (bytes_of c.args.self.now) c.args.a (readable_all (length c.args.bytes.now) c.args.a c.any_end-end.result c.any_end-end.ensures.end c.if-bytes-end.false)))
    c.put_in.ensures.answer
