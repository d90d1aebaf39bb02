-- The walk from an address to the place of its bounds (Intel SDM, volume 1, bound directory and bound tables).
use Rattle.std.specs.Prelude.{ℕ, ◌+◌, ◌*◌, ◌/◌, ◌%◌, nat_lt, Bool, ◌==◌, if◌then◌else◌, Option, None, Some}
use Rattle.mx_base.specs.Regions.{tables}
use Rattle.mx_base.specs.declared.limits.Bounds.{Bounds}
use Rattle.mx_base.specs.Bounds.{addresses, complement, full_bounds}
use Rattle.mx_base.specs.BoundsStore.{most_tables}
use Rattle.mx_base.specs.Memory.{Bytes, number_at, with_number}

-- the directory's first address by the configuration register: its bits 63 to 12
abbrev pub directory_base : ℕ → ℕ
directory_base cfg = 0x1000 * (cfg / 0x1000)

-- where the directory entry of an address stands: 8 bytes for each value of its bits 47 to 20
unfoldable pub directory_entry_at : ℕ → ℕ → ℕ
directory_entry_at cfg la = directory_base cfg + 8 * (la / 0x10_0000 % 0x1000_0000)

-- a directory entry names a table if its lowest bit is set
abbrev pub is_valid_entry : ℕ → Bool
is_valid_entry entry = entry % 2 == 1

-- where the table entry of an address stands: the table of the directory entry, from whose bits 63 to 3 its address is made,
-- has 32 bytes for each value of the address's bits 19 to 3
unfoldable pub table_entry_at : ℕ → ℕ → ℕ
table_entry_at entry la = (8 * (entry / 8) + 32 * (la / 8 % 0x2_0000)) % addresses

-- addresses from here on have no bounds
abbrev pub walk_end : ℕ
walk_end = 0x8000_0000_0000

-- how a walk ends: at an address without bounds, at a directory entry that names no table, or at a table entry
pub data Walked : Type 0 where
  Beyond : (la : ℕ) → Walked
  Invalid : (entry_at : ℕ) → Walked
  Stands : (at : ℕ) → Walked

abbrev pub walk_by : ℕ → ℕ → ℕ → Walked
walk_by entry_at entry la = if is_valid_entry entry then Stands (table_entry_at entry la) else Invalid entry_at

unfoldable pub walk : Bytes → ℕ → ℕ → Walked
walk m cfg la = if nat_lt la walk_end then walk_by (directory_entry_at cfg la) (number_at 8 m (directory_entry_at cfg la)) la else Beyond la

-- a table entry: the lower bound, the upper one in one's complement form, and the value of the pointer that has them;
-- 8 more bytes are reserved, and no store of bounds writes them
pub record TableEntry : Type 0 where
  pub lb : ℕ
  pub held : ℕ
  pub value : ℕ

unfoldable pub entry_in : Bytes → ℕ → TableEntry
entry_in m at = record { lb = number_at 8 m at; held = number_at 8 m (at + 8); value = number_at 8 m (at + 16) }

unfoldable pub with_entry : Bytes → ℕ → TableEntry → Bytes
with_entry m at e = with_number 8 (with_number 8 (with_number 8 m at e.lb) (at + 8) e.held) (at + 16) e.value

-- the bounds that a table entry gives to a pointer of this value: its own if it was stored for that value, and else full
unfoldable pub bounds_in : ℕ → TableEntry → Bounds
bounds_in value e = if e.value == value then record { lb = e.lb; ub = complement e.held } else full_bounds

-- the table entry that stores bounds for a pointer of this value
abbrev pub entry_for : ℕ → Bounds → TableEntry
entry_for value b = record { lb = b.lb; held = complement b.ub; value = value }

-- how many bytes of a table entry are read or written
abbrev pub entry_size : ℕ
entry_size = 24

-- ---- the tables that the runtime makes

-- how many bytes a table has
abbrev pub table_size : ℕ
table_size = 0x40_0000

-- the directory entry of the next table, once this many were made: its address with the lowest bit set
unfoldable pub next_entry : ℕ → ℕ
next_entry made = tables.from + table_size * made + 1

-- the bytes once the runtime has put the next table into a directory entry; None where as many tables were made as may be
unfoldable pub with_next_table : Bytes → ℕ → ℕ → Option Bytes
with_next_table m entry_at made = if nat_lt made most_tables then Some (with_number 8 m entry_at (next_entry made)) else None

-- the status register after a bounds check that failed, and after an invalid directory entry
abbrev pub violation_status : ℕ
violation_status = 1

abbrev pub invalid_status : ℕ → ℕ
invalid_status entry_at = entry_at + 2
