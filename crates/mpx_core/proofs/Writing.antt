-- What the memory's answers to writes are, over bytes and frames.
use Rattle.std.proofs.Common.{◌≡◌, ℕ, ◌≤◌, true, false, nat_lt, Result, Ok, Err, sym, ap, arith}
use Rattle.std.proofs.lemmas.Bool.Decides.{nat_tests}
use Rattle.mx_base.specs.Memory.{Bytes}
use Rattle.mx_base.specs.Walk.{entry_size}
use Rattle.paged_memory.specs.declared.stops.MemStop.{MemStop}
use Rattle.paged_memory.specs.declared.stops.MemStop.TheVariants.{Unmapped, NoFrames}
use Rattle.paged_memory.specs.Paged.{Paged, bytes_of, touched_of}
use Rattle.paged_memory.specs.Touched.{touched_by, frames_for}
use Rattle.paged_memory.specs.Answers.{Writes, Touches, IsShort}
use Rattle.bound_tables.specs.declared.walks.Walk.{Walk}
use Rattle.bound_tables.specs.declared.walks.Walk.TheVariants.{Invalid, Stop}
use Rattle.bound_tables.specs.Entries.{WritesEntry}
use Rattle.paged_memory.specs.Framed.{framed_of}
use Rattle.mpx_core.specs.Steps.{framed_answer, framed_result, as_walk}

put : (n at : ℕ) (bytes : Bytes) (old new : Paged) → bytes ≡ bytes_of new → Touches n at old new → framed_answer (framed_of old) (touched_by n at (touched_of old)) (Ok bytes) ≡ Ok (framed_of new)
put n at bytes old new same t =
    let enough : frames_for (touched_by n at (touched_of old)) ≤ old.capacity = (let touched = ap frames_for t.touched in let most = t.enough in let all = t.capacity in omega (arith, touched, most, all)) in
    let tells : nat_lt old.capacity (frames_for (touched_by n at (touched_of old))) ≡ false = grind (arith, nat_tests) in
    rw tells (λ i. Ok (record { bytes = same i; touched = sym t.touched i; capacity = sym t.capacity i }))

short : (n at used frames : ℕ) (bytes : Bytes) (old : Paged) → IsShort n at old used frames → framed_answer (framed_of old) (touched_by n at (touched_of old)) (Ok bytes) ≡ Err (Stop (NoFrames used frames))
short n at used frames bytes old s =
    let few = s.few in
    let tells : nat_lt old.capacity (frames_for (touched_by n at (touched_of old))) ≡ true = grind (arith, nat_tests) in
    rw tells (λ i. Err (Stop (NoFrames (sym s.in_use i) (sym s.capacity i))))

pub written : (n at : ℕ) (want : Result Bytes MemStop) (old new : Paged) (r : Result (Unit {0}) MemStop) → Writes n at want old new r
    → framed_answer (framed_of old) (touched_by n at (touched_of old)) (as_walk want) ≡ framed_result new (as_walk r)
written n at (Ok bytes) old new (Ok done) h = put n at bytes old new (cc (h.0)) h.1
written n at (Err stop) old new (Ok done) h = absurd (cc (h.0))
written n at (Ok bytes) old new (Err (Unmapped x)) h = absurd (cc)
written n at (Err stop) old new (Err (Unmapped x)) h = let same : stop ≡ Unmapped x = cc in ap (λ (e : MemStop). Err (Stop e)) same
written n at (Ok bytes) old new (Err (NoFrames used frames)) h = short n at used frames bytes old h.1
written n at (Err stop) old new (Err (NoFrames used frames)) h = absurd (cc (h.0))

pub entry_written : (at : ℕ) (want : Result Bytes Walk) (old new : Paged) (r : Result (Unit {0}) Walk) → WritesEntry at want old new r
    → framed_answer (framed_of old) (touched_by entry_size at (touched_of old)) want ≡ framed_result new r
entry_written at (Ok bytes) old new (Ok done) h = put entry_size at bytes old new (cc (h.0)) h.1
entry_written at (Err stop) old new (Ok done) h = absurd (cc (h.0))
entry_written at (Ok bytes) old new (Err (Invalid x)) h = absurd (cc)
entry_written at (Err stop) old new (Err (Invalid x)) h = let same : stop ≡ Invalid x = cc in ap (λ (e : Walk). Err e) same
entry_written at (Ok bytes) old new (Err (Stop (Unmapped x))) h = absurd (cc)
entry_written at (Err stop) old new (Err (Stop (Unmapped x))) h = let same : stop ≡ Stop (Unmapped x) = cc in ap (λ (e : Walk). Err e) same
entry_written at (Ok bytes) old new (Err (Stop (NoFrames used frames))) h = short entry_size at used frames bytes old h.1
entry_written at (Err stop) old new (Err (Stop (NoFrames used frames))) h = absurd (cc (h.0))
