-- Programs of requests over the memory with the walk as its store of bounds.
use Rattle.std.proofs.Common.{◌≡◌, ℕ, ◌+◌, ◌*◌, ◌^◌, ◌<◌, Bool, true, false, ◌==◌, Result, Ok, Err, List, ◌++◌, length, refl, sym, ap, ◌∙◌, arith}
use Rattle.std.proofs.lemmas.Bool.Decides.{nat_tests}
use Rattle.std.specs.Int.{w64, to_le_bytes}
use Rattle.mx_base.specs.declared.limits.Bounds.{Bounds}
use Rattle.mx_base.specs.Memory.{number_at, with_number, with_list}
use Rattle.mx_base.specs.Walk.{bounds_in, violation_status}
use Rattle.paged_memory.specs.declared.stops.MemStop.{MemStop}
use Rattle.paged_memory.specs.Paged.{Paged, bytes_of}
use Rattle.paged_memory.specs.Answers.{load_answer, store_answer, read_answer, write_answer, Writes as WritesBytes}
use Rattle.paged_memory.proofs.Answered.{load_read, load_done, writes_store}
use Rattle.bound_tables.specs.declared.entries.Entry.{Entry}
use Rattle.bound_tables.specs.declared.walks.Walk.{Walk}
use Rattle.bound_tables.specs.declared.walks.Walk.TheVariants.{Invalid, Stop}
use Rattle.bound_tables.specs.Entries.{as_table_entry, entry_loaded, entry_stored, place_of, WritesEntry}
use Rattle.x86_forms.specs.Processor.{Processor, with_bounds}
use Rattle.x86_forms.specs.Requests.{Program, Ends, Reads, Writes, Loads, Keeps, Done, Refused, run, refused_with}
use Rattle.x86_forms.specs.Table.{at_next, with_bnd, checked, from_stored, as_stored}
use Rattle.mpx_core.specs.declared.registers.BndRegs.{BndRegs}
use Rattle.mpx_core.specs.declared.registers.BndStop.{BndStop}
use Rattle.mpx_core.specs.declared.registers.BndStop.TheVariants.{Violation, Stop as Stopped}
use Rattle.mpx_core.specs.Registers.{held_bounds, bounds_of, with_status}
use Rattle.paged_memory.specs.Framed.{framed_of}
use Rattle.mpx_core.specs.Steps.{framed_result, as_walk, status_after, walked_write, walked_load, walked_keep, Beside, seen, outcome_of, Does, stop_of}
use Rattle.mpx_core.proofs.Views.{seen_set, twice}
use Rattle.mpx_core.proofs.Writing.{written, entry_written}
use Rattle.mpx_core.proofs.StoredBounds.{from_words, two_words_put}

-- ---- programs that end

pub sets : (s : Beside) (regs : ℕ → ℕ) (next : ℕ) (b b' : BndRegs) (m : Paged) (k : ℕ) (x y : Bounds) → bounds_of b' ≡ with_bounds (bounds_of b) k x → b'.cfg ≡ b.cfg → b'.status ≡ b.status → y ≡ x
    → Does s regs next b m (Ends (with_bnd (at_next (seen s regs b) next) k y)) b' m (Ok tt)
unfolding run
sets s regs next b b' m k x y e ec es same =
    ap (λ (z : Bounds). Done (with_bnd (at_next (seen s regs b) next) k z) (framed_of m)) same ∙ ap (λ (c : Processor). Done c (framed_of m)) (seen_set s regs next b b' k x e ec es)

pub check_fails : (s : Beside) (regs : ℕ → ℕ) (next : ℕ) (b : BndRegs) (m : Paged) (fails : Bool) (v k : ℕ) → fails ≡ true
    → Does s regs next b m (checked (seen s regs b) next fails v (bounds_of b k)) (with_status b violation_status) m (Err (Violation v (bounds_of b k).lb (bounds_of b k).ub))
unfolding run
check_fails s regs next b m fails v k e = rw e refl

pub check_holds : (s : Beside) (regs : ℕ → ℕ) (next : ℕ) (b : BndRegs) (m : Paged) (fails : Bool) (v k : ℕ) → fails ≡ false
    → Does s regs next b m (checked (seen s regs b) next fails v (bounds_of b k)) b m (Ok tt)
unfolding run
check_holds s regs next b m fails v k e = rw e refl

-- ---- 16 bytes

pub reads_bounds : (s : Beside) (regs : ℕ → ℕ) (next : ℕ) (b b' : BndRegs) (m : Paged) (k at lb held : ℕ) → Ok (tt {0}) ≡ read_answer 16 at
    → lb ≡ number_at 8 (bytes_of m) at → held ≡ number_at 8 (bytes_of m) (at + 8) → lb < 2 ^ 64 → held < 2 ^ 64
    → bounds_of b' ≡ with_bounds (bounds_of b) k (held_bounds lb held) → b'.cfg ≡ b.cfg → b'.status ≡ b.status
    → Does s regs next b m (Reads at 16 false (λ v. Ends (with_bnd (at_next (seen s regs b) next) k (from_stored v)))) b' m (Ok tt)
unfolding run
reads_bounds s regs next b b' m k at lb held read first second low high e ec es =
    let loads : load_answer 16 (bytes_of m) at ≡ Ok (number_at 16 (bytes_of m) at) = sym (load_done 16 (bytes_of m) at (number_at 16 (bytes_of m) at) read refl) in
    rw loads (sets s regs next b b' m k (held_bounds lb held) (from_stored (number_at 16 (bytes_of m) at)) e ec es (from_words (bytes_of m) at lb held first second low high))

pub read_stops : (s : Beside) (regs : ℕ → ℕ) (next : ℕ) (b : BndRegs) (m : Paged) (at : ℕ) (rest : ℕ → Program) (stop : MemStop) → Err stop ≡ read_answer 16 at
    → Does s regs next b m (Reads at 16 false rest) b m (Err (Stopped stop))
unfolding run
read_stops s regs next b m at rest stop read =
    let loads : load_answer 16 (bytes_of m) at ≡ Err stop = sym (load_read 16 (bytes_of m) at stop read) in
    rw loads refl

write_bytes : (at lb held : ℕ) (bytes : List ℕ) (old new : Paged) (r : Result (Unit {0}) MemStop) → lb < 2 ^ 64 → length bytes ≡ 16 → with_list (bytes_of old) at bytes ≡ with_number 16 (bytes_of old) at (lb + held * 2 ^ 64)
    → WritesBytes (length bytes) at (write_answer bytes (bytes_of old) at) old new r → walked_write (framed_of old) at 16 (lb + held * 2 ^ 64) ≡ framed_result new (as_walk r)
unfolding walked_write
write_bytes at lb held bytes old new r fits long same h =
    written 16 at (store_answer 16 (bytes_of old) at (lb + held * 2 ^ 64)) old new r (writes_store 16 at (lb + held * 2 ^ 64) bytes old new r long same h)

pub writes_bounds : (s : Beside) (regs : ℕ → ℕ) (next : ℕ) (b : BndRegs) (old new : Paged) (at lb held : ℕ) (bytes : List ℕ) → lb < 2 ^ 64 → held < 2 ^ 64 → bytes ≡ to_le_bytes w64 lb ++ to_le_bytes w64 held
    → WritesBytes (length bytes) at (write_answer bytes (bytes_of old) at) old new (Ok tt)
    → Does s regs next b old (Writes at 16 (as_stored (held_bounds lb held)) false (Ends (at_next (seen s regs b) next))) b new (Ok tt)
unfolding run
writes_bounds s regs next b old new at lb held bytes low high is h =
    let stored : walked_write (framed_of old) at 16 (lb + held * 2 ^ 64) ≡ Ok (framed_of new) =
    write_bytes at lb held bytes old new (Ok tt) low (ap length is) (ap (with_list (bytes_of old) at) is ∙ two_words_put (bytes_of old) at lb held low) h in
    let back = twice held (omega (arith, high)) in
    rw (back, stored) refl

pub write_stops : (s : Beside) (regs : ℕ → ℕ) (next : ℕ) (b : BndRegs) (old new : Paged) (at lb held : ℕ) (bytes : List ℕ) (rest : Program) (stop : MemStop) → lb < 2 ^ 64 → held < 2 ^ 64
    → bytes ≡ to_le_bytes w64 lb ++ to_le_bytes w64 held → WritesBytes (length bytes) at (write_answer bytes (bytes_of old) at) old new (Err stop) → new ≡ old
    → Does s regs next b old (Writes at 16 (as_stored (held_bounds lb held)) false rest) b new (Err (Stopped stop))
unfolding run
write_stops s regs next b old new at lb held bytes rest stop low high is h same =
    let stored : walked_write (framed_of old) at 16 (lb + held * 2 ^ 64) ≡ Err (Stop stop) =
    write_bytes at lb held bytes old new (Err stop) low (ap length is) (ap (with_list (bytes_of old) at) is ∙ two_words_put (bytes_of old) at lb held low) h in
    let back = twice held (omega (arith, high)) in
    rw (back, stored) (ap (λ (m : Paged). Refused (Stop stop) (seen s regs b) (framed_of m)) (sym same))

-- ---- tables

load_found : (cfg la value : ℕ) (m : Paged) (e : Entry) → Ok e ≡ entry_loaded (bytes_of m) cfg la → walked_load cfg (framed_of m) la value ≡ Ok (bounds_in value (as_table_entry e), framed_of m)
unfolding walked_load
load_found cfg la value m e h = rw (← h) refl

load_refused : (cfg la value : ℕ) (m : Paged) (refusal : Walk) → Err refusal ≡ entry_loaded (bytes_of m) cfg la → walked_load cfg (framed_of m) la value ≡ Err refusal
unfolding walked_load
load_refused cfg la value m refusal h = rw (← h) refl

pub matched : (value : ℕ) (e : Entry) → e.value ≡ value → bounds_in value (as_table_entry e) ≡ held_bounds e.lb e.held
unfolding bounds_in
matched value e same = (let tells : (e.value == value) ≡ true = grind (arith, nat_tests) in rw tells refl)

pub unmatched : (value : ℕ) (e : Entry) → (e.value ≡ value → ⊥) → bounds_in value (as_table_entry e) ≡ held_bounds 0 0
unfolding bounds_in
unmatched value e other = (let tells : (e.value == value) ≡ false = grind (arith, nat_tests) in rw tells refl)

pub loads_bounds : (s : Beside) (regs : ℕ → ℕ) (next : ℕ) (b b' : BndRegs) (m : Paged) (k la value lb held : ℕ) (e : Entry) → Ok e ≡ entry_loaded (bytes_of m) b.cfg la → bounds_in value (as_table_entry e) ≡ held_bounds lb held
    → bounds_of b' ≡ with_bounds (bounds_of b) k (held_bounds lb held) → b'.cfg ≡ b.cfg → b'.status ≡ b.status
    → Does s regs next b m (Loads la value (λ x. Ends (with_bnd (at_next (seen s regs b) next) k x))) b' m (Ok tt)
unfolding run
loads_bounds s regs next b b' m k la value lb held e found is eb ec es =
    let loads = load_found b.cfg la value m e found in
    rw loads (sets s regs next b b' m k (held_bounds lb held) (bounds_in value (as_table_entry e)) eb ec es is)

by_refusal : (s : Beside) (regs : ℕ → ℕ) (next : ℕ) (b : BndRegs) (m : Paged) (refusal : Walk) → Refused refusal (refused_with (status_after refusal b.status) (seen s regs b)) (framed_of m) ≡ outcome_of s regs next (with_status b (status_after refusal b.status)) m (Err (stop_of refusal))
by_refusal s regs next b m (Invalid x) = refl
by_refusal s regs next b m (Stop stop) = refl

pub load_stops : (s : Beside) (regs : ℕ → ℕ) (next : ℕ) (b b' : BndRegs) (m : Paged) (la value : ℕ) (rest : Bounds → Program) (refusal : Walk) (stop : BndStop) → Err refusal ≡ entry_loaded (bytes_of m) b.cfg la
    → b' ≡ with_status b (status_after refusal b.status) → stop ≡ stop_of refusal → Does s regs next b m (Loads la value rest) b' m (Err stop)
unfolding run
load_stops s regs next b b' m la value rest refusal stop refused after is =
    let loads = load_refused b.cfg la value m refusal refused in
    rw loads (by_refusal s regs next b m refusal ∙ (λ i. outcome_of s regs next (sym after i) m (Err (sym is i))))

pub keep_written : (cfg la value lb held : ℕ) (old new : Paged) (r : Result (Unit {0}) Walk) → held < 2 ^ 64
    → WritesEntry (place_of (bytes_of old) cfg la) (entry_stored (bytes_of old) cfg la record { lb = lb; held = held; value = value }) old new r
    → walked_keep cfg (framed_of old) la value (held_bounds lb held) ≡ framed_result new r
unfolding walked_keep
keep_written cfg la value lb held old new r high h =
    let back = twice held (omega (arith, high)) in
    rw back (entry_written (place_of (bytes_of old) cfg la) (entry_stored (bytes_of old) cfg la record { lb = lb; held = held; value = value }) old new r h)

pub keeps_bounds : (s : Beside) (regs : ℕ → ℕ) (next : ℕ) (b : BndRegs) (old new : Paged) (la value : ℕ) (x : Bounds) → walked_keep b.cfg (framed_of old) la value x ≡ Ok (framed_of new)
    → Does s regs next b old (Keeps la value x (Ends (at_next (seen s regs b) next))) b new (Ok tt)
unfolding run
keeps_bounds s regs next b old new la value x keeps = rw keeps refl

pub keep_stops : (s : Beside) (regs : ℕ → ℕ) (next : ℕ) (b b' : BndRegs) (old new : Paged) (la value : ℕ) (x : Bounds) (rest : Program) (refusal : Walk) (stop : BndStop) → walked_keep b.cfg (framed_of old) la value x ≡ Err refusal → new ≡ old
    → b' ≡ with_status b (status_after refusal b.status) → stop ≡ stop_of refusal → Does s regs next b old (Keeps la value x rest) b' new (Err stop)
unfolding run
keep_stops s regs next b b' old new la value x rest refusal stop keeps same after is =
    rw keeps (by_refusal s regs next b old refusal ∙ (λ i. outcome_of s regs next (sym after i) (sym same i) (Err (sym is i))))
