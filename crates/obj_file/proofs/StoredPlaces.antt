-- Where directory entries and table entries stand: each in its region, and no two of them share a byte.
use Rattle.std.proofs.Common.{◌≡◌, ℕ, ◌+◌, ◌/◌, ◌%◌, ◌<◌, ◌≤◌, Bool, true, false, inl, inr, arith}
use Rattle.std.proofs.lemmas.Bool.{cases_order}
use Rattle.std.proofs.lemmas.Bool.Decides.{nat_tests}
use Rattle.mx_base.specs.BoundsStore.{granule, megabyte, most_tables}
use Rattle.mx_base.specs.Regions.{is_readable, is_writable, region_end, tables}
use Rattle.mx_base.specs.Walk.{directory_entry_at, table_entry_at, is_valid_entry, next_entry, walk_end}
use Rattle.obj_file.specs.Loaded.{configuration}
use Rattle.obj_file.specs.StoreLaw.{megabyte_entry_at, directory_entries, bounded_megabytes, table_entries, nth_entry_at, nth_granule, is_of_bounds}

-- ---- places

pub megabyte_bounded : (la : ℕ) → la < walk_end → megabyte la < bounded_megabytes
megabyte_bounded la low = omega arith

pub entry_of_megabyte : (preserve : Bool) (la : ℕ) → la < walk_end → directory_entry_at (configuration preserve) la ≡ megabyte_entry_at (megabyte la)
unfolding directory_entry_at
entry_of_megabyte true la low = omega arith
entry_of_megabyte false la low = omega arith

pub next_entry_valid : (k : ℕ) → is_valid_entry (next_entry k) ≡ true
unfolding next_entry
next_entry_valid k = grind (arith, nat_tests)

pub slot_of : ℕ → ℕ
slot_of la = la / 8 % table_entries

pub slot_below : (la : ℕ) → slot_of la < table_entries
unfolding slot_of
slot_below la = omega arith

pub entry_of_slot : (k la : ℕ) → k < most_tables → table_entry_at (next_entry k) la ≡ nth_entry_at k (slot_of la)
unfolding table_entry_at next_entry slot_of
entry_of_slot k la few = omega arith

pub granule_of_slot : (la : ℕ) → granule la ≡ nth_granule (megabyte la) (slot_of la)
unfolding slot_of
granule_of_slot la = omega arith

pub granule_parts : (m r : ℕ) → r < table_entries → nth_granule m r / table_entries ≡ m
granule_parts m r low = omega arith

pub granule_same : (m r n s : ℕ) → r < table_entries → s < table_entries → nth_granule m r ≡ nth_granule n s → (m ≡ n) × (r ≡ s)
granule_same m r n s low also e = (omega arith, omega arith)

-- ---- apart

pub apart_or_same : (m n : ℕ) {P : Type 0} → (m < n → P) → (m ≡ n → P) → (n < m → P) → P
apart_or_same m n {P} below same above = elim (cases_order m n) [
  | inl e ↦ same e
  | inr o ↦ elim o [ inl h ↦ below h | inr h ↦ above h ]
]

pub entries_before : (k r j s : ℕ) → r < table_entries → s < table_entries → k < j → nth_entry_at k r + 32 ≤ nth_entry_at j s
entries_before k r j s low also below = omega arith

pub entries_before_within : (k r s : ℕ) → r < s → nth_entry_at k r + 32 ≤ nth_entry_at k s
entries_before_within k r s below = omega arith

-- ---- regions

pub directory_of_bounds : (m z : ℕ) → m < directory_entries → megabyte_entry_at m ≤ z → z < megabyte_entry_at m + 8 → is_of_bounds z ≡ true
unfolding is_of_bounds
directory_of_bounds m z few low high = grind (arith, nat_tests)

pub tables_of_bounds : (z : ℕ) → nth_entry_at 0 0 ≤ z → z < region_end tables → is_of_bounds z ≡ true
unfolding is_of_bounds
tables_of_bounds z low high = grind (arith, nat_tests)

pub entry_in_tables : (k r : ℕ) → k < most_tables → r < table_entries → nth_entry_at k r + 32 ≤ region_end tables
entry_in_tables k r few low = omega arith

pub tables_readable : (z : ℕ) → nth_entry_at 0 0 ≤ z → z < region_end tables → is_readable z ≡ true
unfolding is_readable
tables_readable z low high = grind (arith, nat_tests)

pub tables_writable : (z : ℕ) → nth_entry_at 0 0 ≤ z → z < region_end tables → is_writable z ≡ true
unfolding is_writable
tables_writable z low high = grind (arith, nat_tests)

pub far_not_of_bounds : (z : ℕ) → 0x1_0000_0000_0000_0000 ≤ z → is_of_bounds z ≡ false
unfolding is_of_bounds
far_not_of_bounds z far = grind (arith, nat_tests)

pub near_readable : (z : ℕ) → is_readable z ≡ true → z < 0x1_0000_0000_0000_0000
unfolding is_readable
near_readable z can = grind (arith, nat_tests)

pub writable_readable : (z : ℕ) → is_writable z ≡ true → is_readable z ≡ true
unfolding is_readable is_writable
writable_readable z can = grind (arith, nat_tests)
