-- The regions of the machine's addresses, with what may be done there.
use Rattle.std.specs.Prelude.{ℕ, ◌+◌, nat_le, nat_lt, Bool, true, false, not, ◌&&◌, List, [], ◌∷◌}
use Rattle.std.specs.List.{list_any}

-- a region: its first address and its size in bytes, whether it can be written and executed, and whether it is sealed;
-- every region can be read, and no other address can
pub record Region : Type 0 where
  pub from : ℕ
  pub size : ℕ
  pub write : Bool
  pub execute : Bool
  pub sealed : Bool

abbrev pub instrumented_code : Region
instrumented_code = record { from = 0x0100_0000; size = 0x1000_0000; write = false; execute = true; sealed = true }

abbrev pub legacy_code : Region
legacy_code = record { from = 0x1200_0000; size = 0x0100_0000; write = false; execute = true; sealed = false }

abbrev pub data_region : Region
data_region = record { from = 0x2000_0000; size = 0x0100_0000; write = true; execute = false; sealed = false }

abbrev pub heap_region : Region
heap_region = record { from = 0x3000_0000; size = 0x1000_0000; write = true; execute = false; sealed = false }

abbrev pub data_stack : Region
data_stack = record { from = 0x5000_0000; size = 0x0400_0000; write = true; execute = false; sealed = false }

abbrev pub legacy_stack : Region
legacy_stack = record { from = 0x6000_0000; size = 0x0080_0000; write = true; execute = false; sealed = false }

abbrev pub cells : Region
cells = record { from = 0x7000_0000; size = 0x1000; write = true; execute = false; sealed = true }

abbrev pub control_stack : Region
control_stack = record { from = 0x7100_0000; size = 0x0100_0000; write = true; execute = false; sealed = true }

abbrev pub directory : Region
directory = record { from = 0x4000_0000_0000; size = 0x8000_0000; write = true; execute = false; sealed = true }

abbrev pub tables : Region
tables = record { from = 0x5000_0000_0000; size = 0x1_0000_0000; write = true; execute = false; sealed = true }

-- all regions, by address
abbrev pub regions : List Region
regions = instrumented_code ∷ legacy_code ∷ data_region ∷ heap_region ∷ data_stack ∷ legacy_stack ∷ cells ∷ control_stack ∷ directory ∷ tables ∷ []

-- the address after the last one
abbrev pub region_end : Region → ℕ
region_end r = r.from + r.size

abbrev pub is_in : Region → ℕ → Bool
is_in r a = nat_le r.from a && nat_lt a (r.from + r.size)

-- whether an address lies in a region that passes the test
abbrev pub lies_in : (Region → Bool) → ℕ → Bool
lies_in test a = list_any (λ r. test r && is_in r a) regions

-- what the machine may do at an address
unfoldable pub is_readable : ℕ → Bool
is_readable a = lies_in (λ r. true) a

unfoldable pub is_writable : ℕ → Bool
is_writable a = lies_in (λ r. r.write) a

unfoldable pub is_executable : ℕ → Bool
is_executable a = lies_in (λ r. r.execute) a

-- what neither C nor legacy code may touch
unfoldable pub is_sealed : ℕ → Bool
is_sealed a = lies_in (λ r. r.sealed) a

-- what C and legacy code may do at an address
unfoldable pub is_open_to_read : ℕ → Bool
is_open_to_read a = lies_in (λ r. not r.sealed) a

unfoldable pub is_open_to_write : ℕ → Bool
is_open_to_write a = lies_in (λ r. not r.sealed && r.write) a
