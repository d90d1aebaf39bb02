-- What the answers of a memory are, by what was found.
use Rattle.std.proofs.Common.{◌≡◌, ℕ, ◌-◌, ◌<◌, min, true, false, nat_lt, Option, None, Some, Result, Ok, Err, List, length, refl, ap, ◌∙◌, subst, arith}
use Rattle.std.proofs.lemmas.Bool.Decides.{nat_tests}
use Rattle.mx_base.specs.Regions.{is_readable, is_writable}
use Rattle.mx_base.specs.Memory.{Bytes, number_at, with_number, with_list, first_refused}
use Rattle.paged_memory.specs.declared.stops.MemStop.{MemStop}
use Rattle.paged_memory.specs.declared.stops.MemStop.TheVariants.{Unmapped}
use Rattle.paged_memory.specs.Ends.{run_end}
use Rattle.paged_memory.specs.Answers.{unless_refused, load_answer, read_answer, store_answer, write_answer, place_answer, fetch_answer, Writes}
use Rattle.paged_memory.specs.Paged.{Paged, bytes_of}
use Rattle.paged_memory.proofs.Regions.{executable_by_end}

refused : {X : Type 0} → (o : Option ℕ) (x : ℕ) (v : X) → o ≡ Some x → unless_refused o v ≡ Err (Unmapped x)
refused o x v e = rw e refl

allowed : {X : Type 0} → (o : Option ℕ) (v : X) → o ≡ None → unless_refused o v ≡ Ok v
allowed o v e = rw e refl

alike : (o : Option ℕ) (e : MemStop) (v : ℕ) → ◌≡◌ {A = Result (Unit {0}) MemStop} (Err e) (unless_refused o (tt {0})) → ◌≡◌ {A = Result ℕ MemStop} (Err e) (unless_refused o v)
alike None e v h = absurd (cc)
alike (Some x) e v h = (let same : e ≡ Unmapped x = cc in ap Err same)

alike_done : (o : Option ℕ) (v w : ℕ) → ◌≡◌ {A = Result (Unit {0}) MemStop} (Ok (tt {0})) (unless_refused o (tt {0})) → v ≡ w → ◌≡◌ {A = Result ℕ MemStop} (Ok v) (unless_refused o w)
alike_done None v w h same = ap Ok same
alike_done (Some x) v w h same = absurd (cc)

pub read_refused : (n a x : ℕ) → first_refused is_readable n a ≡ Some x → read_answer n a ≡ Err (Unmapped x)
unfolding read_answer
read_refused n a x e = refused (first_refused is_readable n a) x tt e

pub read_allowed : (n a : ℕ) → first_refused is_readable n a ≡ None → read_answer n a ≡ Ok tt
unfolding read_answer
read_allowed n a e = allowed (first_refused is_readable n a) tt e

-- a load is refused as a read of its bytes is
pub load_read : (n : ℕ) (m : Bytes) (a : ℕ) (e : MemStop) → Err e ≡ read_answer n a → Err e ≡ load_answer n m a
unfolding read_answer load_answer
load_read n m a e h = alike (first_refused is_readable n a) e (number_at n m a) h

pub load_done : (n : ℕ) (m : Bytes) (a v : ℕ) → Ok tt ≡ read_answer n a → v ≡ number_at n m a → Ok v ≡ load_answer n m a
unfolding read_answer load_answer
load_done n m a v h same = alike_done (first_refused is_readable n a) v (number_at n m a) h same

pub write_refused : (bytes : List ℕ) (m : Bytes) (a x : ℕ) → first_refused is_writable (length bytes) a ≡ Some x → write_answer bytes m a ≡ Err (Unmapped x)
unfolding write_answer
write_refused bytes m a x e = refused (first_refused is_writable (length bytes) a) x (with_list m a bytes) e

pub write_allowed : (bytes : List ℕ) (m : Bytes) (a : ℕ) → first_refused is_writable (length bytes) a ≡ None → write_answer bytes m a ≡ Ok (with_list m a bytes)
unfolding write_answer
write_allowed bytes m a e = allowed (first_refused is_writable (length bytes) a) (with_list m a bytes) e

pub place_refused : (bytes : List ℕ) (m : Bytes) (a x : ℕ) → first_refused is_readable (length bytes) a ≡ Some x → place_answer bytes m a ≡ Err (Unmapped x)
unfolding place_answer
place_refused bytes m a x e = refused (first_refused is_readable (length bytes) a) x (with_list m a bytes) e

pub place_allowed : (bytes : List ℕ) (m : Bytes) (a : ℕ) → first_refused is_readable (length bytes) a ≡ None → place_answer bytes m a ≡ Ok (with_list m a bytes)
unfolding place_answer
place_allowed bytes m a e = allowed (first_refused is_readable (length bytes) a) (with_list m a bytes) e

-- a store answers as a write of its bytes does
pub store_write : (n : ℕ) (bytes : List ℕ) (m : Bytes) (a v : ℕ) → length bytes ≡ n → with_list m a bytes ≡ with_number n m a v → write_answer bytes m a ≡ store_answer n m a v
unfolding write_answer store_answer
store_write n bytes m a v long same = λ i. unless_refused (first_refused is_writable (long i) a) (same i)

pub fetch_refused : (a end : ℕ) → end ≡ run_end (λ r. r.execute) a → end ≡ a → fetch_answer a ≡ Err (Unmapped a)
unfolding fetch_answer
fetch_refused a end is same =
    let tells : nat_lt a (run_end (λ r. r.execute) a) ≡ false = grind (arith, nat_tests) in
    rw (executable_by_end a, tells) refl

pub fetch_done : (a end n : ℕ) → end ≡ run_end (λ r. r.execute) a → a < end → n ≡ min (end - a) 15 → Ok n ≡ fetch_answer a
unfolding fetch_answer
fetch_done a end n is below count =
    let tells : nat_lt a (run_end (λ r. r.execute) a) ≡ true = grind (arith, nat_tests) in
    rw (executable_by_end a, tells) (ap Ok (count ∙ ap (λ e. min (e - a) 15) is))

pub writes_store : (n a v : ℕ) (bytes : List ℕ) (old new : Paged) (r : Result (Unit {0}) MemStop) → length bytes ≡ n → with_list (bytes_of old) a bytes ≡ with_number n (bytes_of old) a v
    → Writes (length bytes) a (write_answer bytes (bytes_of old) a) old new r → Writes n a (store_answer n (bytes_of old) a v) old new r
writes_store n a v bytes old new r long same done =
    subst (λ (k : ℕ). Writes k a (store_answer n (bytes_of old) a v) old new r) long
    (subst (λ (w : Result Bytes MemStop). Writes (length bytes) a w old new r) (store_write n bytes (bytes_of old) a v long same) done)
