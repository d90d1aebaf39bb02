use Rattle.std.specs.Prelude.{length}
use Rattle.std.proofs.Common.{sym, subst, arith, ℕ, ◌<◌, ◌≤◌, Result, Ok, Err}
use Rattle.mx_base.specs.Memory.{Bytes}
use Rattle.paged_memory.specs.declared.stops.MemStop.{MemStop}
use Rattle.paged_memory.specs.Paged.{Paged, bytes_of}
use Rattle.paged_memory.specs.Answers.{write_answer, Writes}
use Rattle.paged_memory.proofs.Regions.{run_end_covers, writable_past, writable_all, writable_below}
use Rattle.paged_memory.proofs.Answered.{write_refused, write_allowed}
use Rattle.paged_memory.proofs.memory.Memory.write_far.Goals as goal

pub overflow_sub-end : goal.overflow_sub-end
overflow_sub-end c = subst (λ (e : ℕ). c.args.a ≤ e) (sym c.data_end-end.ensures.end) (run_end_covers (λ r. r.write) c.args.a).0

pub returns-then-bytes-end-clause-answer : goal.returns-then-bytes-end-clause-answer
returns-then-bytes-end-clause-answer c =
    write_refused c.args.bytes.now (bytes_of c.args.self.now) c.args.a c.data_end-end.result (writable_past (length c.args.bytes.now) c.args.a c.data_end-end.result c.data_end-end.ensures.end c.if-bytes-end.true)

pub keep_page-requires-clause-open : goal.keep_page-requires-clause-open
keep_page-requires-clause-open c =
    let some = c.requires.some in
    let fits = c.if-bytes-end.false in
    let below : c.args.a < c.data_end-end.result = omega (arith, some, fits) in
    writable_below c.args.a (subst (λ (e : ℕ). c.args.a < e) c.data_end-end.ensures.end below)

pub returns-in-Ok-clause-answer : goal.returns-in-Ok-clause-answer
returns-in-Ok-clause-answer c =
    subst (λ (s : Paged). Writes (length c.args.bytes.now) c.args.a (write_answer c.args.bytes.now (bytes_of c.args.self.now) c.args.a) c.args.self.now s (Ok (tt {0}))) (sym c.self.view_is)
    (subst (λ (w : Result Bytes MemStop). Writes (length c.args.bytes.now) c.args.a w c.args.self.now c.put_in.new.self (Ok (tt {0})))
    (sym (write_allowed c.args.bytes.now (bytes_of c.args.self.now) c.args.a (writable_all (length c.args.bytes.now) c.args.a c.data_end-end.result c.data_end-end.ensures.end c.if-bytes-end.false)))
    c.in-Ok.ensures.answer)

pub returns-in-Err-clause-answer : goal.returns-in-Err-clause-answer
returns-in-Err-clause-answer c =
    subst (λ (w : Result Bytes MemStop). Writes (length c.args.bytes.now) c.args.a w c.args.self.now c.put_in.new.self (Err c.in-Err.stop))
    (sym (write_allowed c.args.bytes.now (bytes_of c.args.self.now) c.args.a (writable_all (length c.args.bytes.now) c.args.a c.data_end-end.result c.data_end-end.ensures.end c.if-bytes-end.false)))
    c.in-Err.ensures.answer
