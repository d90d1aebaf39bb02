-- A directory entry can be written, and what its store answers.
use Rattle.std.proofs.Common.{◌≡◌, ℕ, ◌+◌, ◌%◌, ◌<◌, ◌≤◌, true, None, Some, Result, Ok, Err, refl, ap, ◌∙◌, subst, arith, IsSome, nat_lt, ◌-◌, false}
use Rattle.std.proofs.lemmas.Bool.Decides.{nat_tests}
use Rattle.mx_base.specs.BoundsStore.{most_tables}
use Rattle.mx_base.specs.Memory.{Bytes, with_number, first_refused}
use Rattle.mx_base.specs.Regions.{is_writable}
use Rattle.mx_base.specs.Walk.{next_entry, with_next_table}
use Rattle.mx_base.proofs.MemoryLemmas.{first_refused-all}
use Rattle.paged_memory.specs.declared.stops.MemStop.{MemStop}
use Rattle.paged_memory.specs.declared.stops.MemStop.TheVariants.{Unmapped, NoFrames}
use Rattle.paged_memory.specs.Paged.{Paged, bytes_of}
use Rattle.paged_memory.specs.Answers.{store_answer, Writes, Touches, IsShort}
use Rattle.br_runtime.specs.Serving.{is_directory_entry, named_entry}

directory_writable : (x : ℕ) → 0x4000_0000_0000 ≤ x → x < 0x4000_8000_0000 → is_writable x ≡ true
unfolding is_writable
directory_writable x low high = grind (arith, nat_tests)

entry_low : (at : ℕ) → is_directory_entry at ≡ true → 0x4000_0000_0000 ≤ at
entry_low at h = grind (arith, nat_tests)

entry_high : (at : ℕ) → is_directory_entry at ≡ true → at + 8 ≤ 0x4000_8000_0000
entry_high at h = let end : at < 0x4000_8000_0000 = grind (arith, nat_tests) in let even : at % 8 ≡ 0 = grind (arith, nat_tests) in omega arith

entry_writable : (at : ℕ) → is_directory_entry at ≡ true → first_refused is_writable 8 at ≡ None
entry_writable at h =
    let low = entry_low at h in
    let high = entry_high at h in
    first_refused-all is_writable 8 at (λ x from below. directory_writable x (omega (arith, low)) (omega (arith, high)))

pub entry_stores : (m : Bytes) (at v : ℕ) → is_directory_entry at ≡ true → store_answer 8 m at v ≡ Ok (with_number 8 m at v)
unfolding store_answer
entry_stores m at v h = rw (entry_writable at h) refl

pub next_table : (m : Bytes) (at made : ℕ) → made < most_tables → with_next_table m at made ≡ Some (with_number 8 m at (next_entry made))
unfolding with_next_table
next_table m at made few = (let tells : nat_lt made 1024 ≡ true = grind (arith, nat_tests) in rw tells refl)

pub no_table : (m : Bytes) (at made : ℕ) → most_tables ≤ made → with_next_table m at made ≡ None
unfolding with_next_table
no_table m at made all = (let tells : nat_lt made 1024 ≡ false = grind (arith, nat_tests) in rw tells refl)

pub named : (status : ℕ) → status % 4 ≡ 2 → status - 2 ≡ named_entry status
named status code = omega arith

-- ---- what the store left

abbrev pub AfterStore : ℕ → ℕ → Paged → Paged → Result (Unit {0}) MemStop → Type 0
AfterStore at made old new (Ok done) = (with_next_table (bytes_of old) at made ≡ Some (bytes_of new)) × Touches 8 at old new
AfterStore at made old new (Err (Unmapped x)) = ⊥
AfterStore at made old new (Err (NoFrames in_use capacity)) = IsSome (with_next_table (bytes_of old) at made) × IsShort 8 at old in_use capacity

by_store : (at made : ℕ) (old new : Paged) (r : Result (Unit {0}) MemStop) → made < most_tables → is_directory_entry at ≡ true → Writes 8 at (store_answer 8 (bytes_of old) at (next_entry made)) old new r → AfterStore at made old new r
by_store at made old new (Ok done) few entry h =
    let stored = entry_stores (bytes_of old) at (next_entry made) entry in
    let same : with_number 8 (bytes_of old) at (next_entry made) ≡ bytes_of new = cc (stored, h.0) in
    (next_table (bytes_of old) at made few ∙ ap Some same, h.1)
by_store at made old new (Err (Unmapped x)) few entry h = let stored = entry_stores (bytes_of old) at (next_entry made) entry in absurd (cc)
by_store at made old new (Err (NoFrames in_use capacity)) few entry h = (rw (next_table (bytes_of old) at made few) refl, h.1)

pub served : (status made v : ℕ) (old new : Paged) (r : Result (Unit {0}) MemStop) → status % 4 ≡ 2 → made < most_tables → is_directory_entry (named_entry status) ≡ true → v ≡ next_entry made
    → Writes 8 (status - 2) (store_answer 8 (bytes_of old) (status - 2) v) old new r → AfterStore (named_entry status) made old new r
served status made v old new r code few entry is h =
    by_store (named_entry status) made old new r few entry
    (subst (λ (a : ℕ). Writes 8 a (store_answer 8 (bytes_of old) a (next_entry made)) old new r) (named status code)
    (subst (λ (w : ℕ). Writes 8 (status - 2) (store_answer 8 (bytes_of old) (status - 2) w) old new r) is h))
