-- The bytes of a table entry, and what the memory's answers are for it.
use Rattle.std.proofs.Common.{◌≡◌, ℕ, ◌+◌, None, Some, Option, Result, Ok, Err, List, ◌++◌, length, refl, ap, ◌∙◌, sym, subst, arith}
use Rattle.std.specs.Prelude.{slice_range}
use Rattle.std.specs.Int.{w64, from_le_bytes, to_le_bytes}
use Rattle.mx_base.specs.Memory.{Bytes, number_at, with_number, list_at, with_list, first_refused}
use Rattle.mx_base.specs.Regions.{is_readable, is_writable}
use Rattle.mx_base.specs.Walk.{Walked, Beyond, Invalid as NoTable, Stands, walk, entry_in, with_entry}
use Rattle.paged_memory.specs.declared.stops.MemStop.{MemStop}
use Rattle.paged_memory.specs.declared.stops.MemStop.TheVariants.{Unmapped, NoFrames}
use Rattle.paged_memory.specs.Paged.{Paged, bytes_of}
use Rattle.paged_memory.specs.Answers.{unless_refused as unless_unmapped, read_answer, write_answer, Writes}
use Rattle.paged_memory.proofs.Numbers.{number_of_list, with_number_bytes}
use Rattle.paged_memory.proofs.PageBytes.{list_at-add, with_list-append}
use Rattle.bound_tables.specs.declared.entries.Entry.{Entry}
use Rattle.bound_tables.specs.declared.walks.Walk.{Walk}
use Rattle.bound_tables.specs.declared.walks.Walk.TheVariants.{Invalid, Stop}
use Rattle.bound_tables.specs.Walks.{at_place, unless_refused}
use Rattle.bound_tables.specs.Entries.{as_entry, as_table_entry, loaded_at, stored_at, entry_loaded, entry_stored, WritesEntry}

-- ---- reading

three_lists : (m : Bytes) (a : ℕ) → list_at 24 m a ≡ list_at 8 m a ++ (list_at 8 m (a + 8) ++ list_at 8 m (a + 16))
three_lists m a =
    let there : a + 8 + 8 ≡ a + 16 = omega arith in
    list_at-add 8 16 m a ∙ ap (λ (xs : List ℕ). list_at 8 m a ++ xs) (list_at-add 8 8 m (a + 8) ∙ ap (λ b. list_at 8 m (a + 8) ++ list_at 8 m b) there)

number_of_eight : (m : Bytes) (a : ℕ) → from_le_bytes w64 (list_at 8 m a) ≡ number_at 8 m a
unfolding list_at
number_of_eight m a = number_of_list 8 refl m a 0 refl

pub first_word : (m : Bytes) (a : ℕ) → from_le_bytes w64 (slice_range (list_at 24 m a) 0 8) ≡ number_at 8 m a
unfolding list_at
first_word m a = number_of_eight m a

pub second_word : (m : Bytes) (a : ℕ) → from_le_bytes w64 (slice_range (list_at 24 m a) 8 16) ≡ number_at 8 m (a + 8)
unfolding list_at
second_word m a = ap (λ (xs : List ℕ). from_le_bytes w64 (slice_range xs 8 16)) (three_lists m a) ∙ number_of_eight m (a + 8)

pub third_word : (m : Bytes) (a : ℕ) → from_le_bytes w64 (slice_range (list_at 24 m a) 16 24) ≡ number_at 8 m (a + 16)
unfolding list_at
third_word m a = ap (λ (xs : List ℕ). from_le_bytes w64 (slice_range xs 16 24)) (three_lists m a) ∙ number_of_eight m (a + 16)

pub read_words : (m : Bytes) (at : ℕ) (buf : List ℕ) (lb held value : ℕ) → buf ≡ list_at 24 m at → lb ≡ from_le_bytes w64 (slice_range buf 0 8) → held ≡ from_le_bytes w64 (slice_range buf 8 16)
    → value ≡ from_le_bytes w64 (slice_range buf 16 24) → ◌≡◌ {A = Entry} record { lb = lb; held = held; value = value } (as_entry (entry_in m at))
unfolding entry_in
read_words m at buf lb held value is first second third =
    let a : lb ≡ number_at 8 m at = first ∙ ap (λ (xs : List ℕ). from_le_bytes w64 (slice_range xs 0 8)) is ∙ first_word m at in
    let b : held ≡ number_at 8 m (at + 8) = second ∙ ap (λ (xs : List ℕ). from_le_bytes w64 (slice_range xs 8 16)) is ∙ second_word m at in
    let d : value ≡ number_at 8 m (at + 16) = third ∙ ap (λ (xs : List ℕ). from_le_bytes w64 (slice_range xs 16 24)) is ∙ third_word m at in
    λ i. record { lb = a i; held = b i; value = d i }

by_read : (o : Option ℕ) (v : Entry) → ◌≡◌ {A = Result (Unit {0}) MemStop} (Ok (tt {0})) (unless_unmapped o (tt {0})) → Ok v ≡ unless_refused o v
by_read None v h = refl
by_read (Some x) v h = absurd (cc)

by_refusal : (o : Option ℕ) (e : MemStop) (v : Entry) → ◌≡◌ {A = Result (Unit {0}) MemStop} (Err e) (unless_unmapped o (tt {0})) → ◌≡◌ {A = Result Entry Walk} (Err (Stop e)) (unless_refused o v)
by_refusal None e v h = absurd (cc)
by_refusal (Some x) e v h = let same : e ≡ Unmapped x = cc in ap (λ (s : MemStop). Err (Stop s)) same

pub read_done : (m : Bytes) (at : ℕ) → Ok (tt {0}) ≡ read_answer 24 at → Ok (as_entry (entry_in m at)) ≡ loaded_at m at
unfolding read_answer loaded_at
read_done m at h = by_read (first_refused is_readable 24 at) (as_entry (entry_in m at)) h

pub read_refused : (m : Bytes) (at : ℕ) (e : MemStop) → Err e ≡ read_answer 24 at → Err (Stop e) ≡ loaded_at m at
unfolding read_answer loaded_at
read_refused m at e h = by_refusal (first_refused is_readable 24 at) e (as_entry (entry_in m at)) h

-- ---- writing

with_word : (m : Bytes) (a v : ℕ) → with_list m a (to_le_bytes w64 v) ≡ with_number 8 m a v
with_word m a v = with_number_bytes 8 m a v refl

pub with_three_words : (m : Bytes) (a : ℕ) (e : Entry) → with_list m a (to_le_bytes w64 e.lb ++ (to_le_bytes w64 e.held ++ to_le_bytes w64 e.value)) ≡ with_entry m a (as_table_entry e)
unfolding with_entry
with_three_words m a e =
    let there : a + 8 + 8 ≡ a + 16 = omega arith in
    with_list-append (to_le_bytes w64 e.lb) (to_le_bytes w64 e.held ++ to_le_bytes w64 e.value) m a
    ∙ with_list-append (to_le_bytes w64 e.held) (to_le_bytes w64 e.value) (with_list m a (to_le_bytes w64 e.lb)) (a + 8)
    ∙ ap (λ b. with_list (with_list (with_list m a (to_le_bytes w64 e.lb)) (a + 8) (to_le_bytes w64 e.held)) b (to_le_bytes w64 e.value)) there
    ∙ ap (λ k. with_list (with_list k (a + 8) (to_le_bytes w64 e.held)) (a + 16) (to_le_bytes w64 e.value)) (with_word m a e.lb)
    ∙ ap (λ k. with_list k (a + 16) (to_le_bytes w64 e.value)) (with_word (with_number 8 m a e.lb) (a + 8) e.held)
    ∙ with_word (with_number 8 (with_number 8 m a e.lb) (a + 8) e.held) (a + 16) e.value

-- an answer of the memory as one of a walk
abbrev pub as_walk : Result (Unit {0}) MemStop → Result (Unit {0}) Walk
as_walk (Ok done) = Ok done
as_walk (Err stop) = Err (Stop stop)

by_write : (o : Option ℕ) (b : Bytes) (at : ℕ) (old new : Paged) (r : Result (Unit {0}) MemStop) → Writes 24 at (unless_unmapped o b) old new r → WritesEntry at (unless_refused o b) old new (as_walk r)
by_write None b at old new (Ok done) h = (let same : b ≡ bytes_of new = cc (h.0) in ap Ok same, h.1)
by_write (Some x) b at old new (Ok done) h = absurd (cc (h.0))
by_write None b at old new (Err (Unmapped x)) h = absurd (cc)
by_write (Some y) b at old new (Err (Unmapped x)) h = let same : y ≡ x = cc in ap (λ (z : ℕ). Err (Stop (Unmapped z))) same
by_write None b at old new (Err (NoFrames in_use capacity)) h = h
by_write (Some y) b at old new (Err (NoFrames in_use capacity)) h = absurd (cc (h.0))

pub writes_entry : (at : ℕ) (e : Entry) (bytes : List ℕ) (old new : Paged) (r : Result (Unit {0}) MemStop) → bytes ≡ to_le_bytes w64 e.lb ++ (to_le_bytes w64 e.held ++ to_le_bytes w64 e.value)
    → Writes (length bytes) at (write_answer bytes (bytes_of old) at) old new r → WritesEntry at (stored_at (bytes_of old) e at) old new (as_walk r)
unfolding write_answer stored_at
writes_entry at e bytes old new r is h =
    by_write (first_refused is_writable 24 at) (with_entry (bytes_of old) at (as_table_entry e)) at old new r
    (subst (λ (b : Bytes). Writes 24 at (unless_unmapped (first_refused is_writable 24 at) b) old new r) (with_three_words (bytes_of old) at e)
    (subst (λ (xs : List ℕ). Writes (length xs) at (unless_unmapped (first_refused is_writable (length xs) at) (with_list (bytes_of old) at xs)) old new r) is h))

-- ---- walks that give no place

pub writes_nothing : (w : Walked) (refusal : Walk) (f : ℕ → Result Bytes Walk) (at : ℕ) (old new : Paged) → ◌≡◌ {A = Result ℕ Walk} (Err refusal) (at_place w (λ a. Ok a)) → WritesEntry at (at_place w f) old new (Err refusal)
writes_nothing (Beyond la) refusal f at old new h =
    let same : refusal ≡ Stop (Unmapped la) = cc in subst (λ (r : Walk). WritesEntry at (Err (Stop (Unmapped la))) old new (Err r)) (sym same) refl
writes_nothing (NoTable x) refusal f at old new h =
    let same : refusal ≡ Invalid x = cc in subst (λ (r : Walk). WritesEntry at (Err (Invalid x)) old new (Err r)) (sym same) refl
writes_nothing (Stands a) refusal f at old new h = absurd (cc)

pub stores_nothing : (m : Bytes) (cfg la : ℕ) (e : Entry) (refusal : Walk) (at : ℕ) (old new : Paged) → ◌≡◌ {A = Result ℕ Walk} (Err refusal) (at_place (walk m cfg la) (λ a. Ok a)) → WritesEntry at (entry_stored m cfg la e) old new (Err refusal)
unfolding entry_stored
stores_nothing m cfg la e refusal at old new h = writes_nothing (walk m cfg la) refusal (stored_at m e) at old new h

gives_nothing : {X : Type 0} (w : Walked) (refusal : Walk) (f : ℕ → Result X Walk) → ◌≡◌ {A = Result ℕ Walk} (Err refusal) (at_place w (λ a. Ok a)) → Err refusal ≡ at_place w f
gives_nothing (Beyond la) refusal f h = let same : refusal ≡ Stop (Unmapped la) = cc in ap (λ (r : Walk). Err r) same
gives_nothing (NoTable x) refusal f h = let same : refusal ≡ Invalid x = cc in ap (λ (r : Walk). Err r) same
gives_nothing (Stands a) refusal f h = absurd (cc)

pub loads_nothing : (m : Bytes) (cfg la : ℕ) (refusal : Walk) → ◌≡◌ {A = Result ℕ Walk} (Err refusal) (at_place (walk m cfg la) (λ a. Ok a)) → Err refusal ≡ entry_loaded m cfg la
unfolding entry_loaded
loads_nothing m cfg la refusal h = gives_nothing (walk m cfg la) refusal (loaded_at m) h

-- ---- walks that give a place

pub loaded_there : (m : Bytes) (cfg la at : ℕ) → walk m cfg la ≡ Stands at → entry_loaded m cfg la ≡ loaded_at m at
unfolding entry_loaded
loaded_there m cfg la at h = rw h refl

pub stored_there : (m : Bytes) (cfg la at : ℕ) (e : Entry) → walk m cfg la ≡ Stands at → entry_stored m cfg la e ≡ stored_at m e at
unfolding entry_stored
stored_there m cfg la at e h = rw h refl
