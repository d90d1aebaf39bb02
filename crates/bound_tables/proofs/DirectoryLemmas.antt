-- The directory entry of an address can always be read and written, and where its walk ends.
use Rattle.std.proofs.Common.{◌≡◌, ℕ, ◌+◌, ◌<◌, ◌≤◌, Bool, true, false, cond, nat_lt, None, Ok, refl, ap, arith}
use Rattle.std.proofs.lemmas.Bool.Decides.{nat_tests}
use Rattle.mx_base.specs.Memory.{Bytes, number_at, first_refused}
use Rattle.mx_base.specs.Regions.{is_readable}
use Rattle.mx_base.specs.Walk.{Walked, Beyond, Invalid, Stands, walk, walk_end, is_valid_entry, directory_base, directory_entry_at, table_entry_at}
use Rattle.mx_base.proofs.MemoryLemmas.{first_refused-all}
use Rattle.paged_memory.specs.Answers.{load_answer}
use Rattle.bound_tables.specs.Walks.{is_configuration, at_place}
use Rattle.bound_tables.specs.Entries.{place_of}

base_is : (cfg : ℕ) → is_configuration cfg ≡ true → directory_base cfg ≡ 0x4000_0000_0000
base_is cfg h = grind (arith, nat_tests)

from_base : (cfg la : ℕ) → is_configuration cfg ≡ true → 0x4000_0000_0000 ≤ directory_entry_at cfg la
unfolding directory_entry_at
from_base cfg la h = let base = base_is cfg h in omega (arith, base)

before_end : (cfg la : ℕ) → is_configuration cfg ≡ true → directory_entry_at cfg la + 8 ≤ 0x4000_8000_0000
unfolding directory_entry_at
before_end cfg la h = let base = base_is cfg h in omega (arith, base)

directory_readable : (x : ℕ) → 0x4000_0000_0000 ≤ x → x < 0x4000_8000_0000 → is_readable x ≡ true
unfolding is_readable
directory_readable x low high = grind (arith, nat_tests)

pub entry_readable : (cfg la : ℕ) → is_configuration cfg ≡ true → first_refused is_readable 8 (directory_entry_at cfg la) ≡ None
entry_readable cfg la h =
    let from = from_base cfg la h in
    let end = before_end cfg la h in
    first_refused-all is_readable 8 (directory_entry_at cfg la) (λ x low high. directory_readable x (omega (arith, from)) (omega (arith, end)))

-- so a load of it is done
pub entry_loads : (m : Bytes) (cfg la : ℕ) → is_configuration cfg ≡ true → load_answer 8 m (directory_entry_at cfg la) ≡ Ok (number_at 8 m (directory_entry_at cfg la))
unfolding load_answer
entry_loads m cfg la h = rw (entry_readable cfg la h) refl

-- ---- where a walk ends

pub stands : (w : Walked) (at : ℕ) → Ok at ≡ at_place w (λ a. Ok a) → w ≡ Stands at
stands (Beyond la) at h = absurd (cc)
stands (Invalid x) at h = absurd (cc)
stands (Stands a) at h = let same : a ≡ at = cc in ap Stands same

by_valid : (b : Bool) (entry_at place at : ℕ) → cond b (Stands place) (Invalid entry_at) ≡ Stands at → place ≡ at
by_valid true entry_at place at h = cc
by_valid false entry_at place at h = absurd (cc)

by_low : (b : Bool) (la entry_at place at : ℕ) (valid : Bool) → cond b (cond valid (Stands place) (Invalid entry_at)) (Beyond la) ≡ Stands at → place ≡ at
by_low true la entry_at place at valid h = by_valid valid entry_at place at h
by_low false la entry_at place at valid h = absurd (cc)

pub stands_at_place : (m : Bytes) (cfg la at : ℕ) → walk m cfg la ≡ Stands at → place_of m cfg la ≡ at
unfolding walk place_of
stands_at_place m cfg la at h =
    by_low (nat_lt la walk_end) la (directory_entry_at cfg la) (table_entry_at (number_at 8 m (directory_entry_at cfg la)) la) at
    (is_valid_entry (number_at 8 m (directory_entry_at cfg la))) h
