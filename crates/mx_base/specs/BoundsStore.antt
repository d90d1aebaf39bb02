-- The store of bounds beside the memory: for each 8 bytes a pointer's value and its bounds (what Intel SDM, volume 2, BNDLDX and BNDSTX keep in tables), and the megabytes that it was asked about.
use Rattle.std.specs.Prelude.{ℕ, ◌/◌, nat_lt, ◌==◌, if◌then◌else◌, Option, None, Some, List, [], ◌∷◌, ◌++◌, length}
use Rattle.std.specs.List.{list_any}
use Rattle.std.specs.Option.{option_map}
use Rattle.mx_base.specs.declared.limits.Bounds.{Bounds}
use Rattle.mx_base.specs.Bounds.{full_bounds}

-- what is kept for a granule: a pointer's value, and its bounds
pub record Kept : Type 0 where
  pub value : ℕ
  pub bounds : Bounds

-- what is kept for each granule, and the touched megabytes in the order in which they were touched first
pub record BoundsStore : Type 0 where
  pub kept : ℕ → Option Kept
  pub touched : List ℕ

abbrev pub empty_store : BoundsStore
empty_store = record { kept = λ g. None; touched = [] }

-- the 8 bytes of an address
abbrev pub granule : ℕ → ℕ
granule a = a / 8

abbrev pub megabyte : ℕ → ℕ
megabyte a = a / 0x10_0000

-- how many megabytes may be touched: there are tables for no more
abbrev pub most_tables : ℕ
most_tables = 1024

-- the bounds of a pointer of this value: those kept, if they were kept for this value, and else full
unfoldable pub bounds_for : ℕ → Option Kept → Bounds
bounds_for value None = full_bounds
bounds_for value (Some k) = if k.value == value then k.bounds else full_bounds

-- the megabytes once this one is touched too: None where that needs one table more than there may be
unfoldable pub touched_with : List ℕ → ℕ → Option (List ℕ)
touched_with touched m = if list_any (λ t. t == m) touched then Some touched
    else if nat_lt (length touched) most_tables then Some (touched ++ m ∷ []) else None

abbrev pub with_touched : BoundsStore → List ℕ → BoundsStore
with_touched s touched = record { kept = s.kept; touched = touched }

-- the store once the megabyte of an address is touched
abbrev pub touch : BoundsStore → ℕ → Option BoundsStore
touch s a = option_map (with_touched s) (touched_with s.touched (megabyte a))

-- the store with this value and these bounds kept for the granule of an address
abbrev pub with_kept : BoundsStore → ℕ → ℕ → Bounds → BoundsStore
with_kept s a value b = record { kept = λ g. if g == granule a then Some record { value = value; bounds = b } else s.kept g; touched = s.touched }

-- the store after these bounds were kept at an address; None where a table is wanting, and then nothing is kept
unfoldable pub keep_bounds : BoundsStore → ℕ → ℕ → Bounds → Option BoundsStore
keep_bounds s a value b = option_map (λ t. with_kept t a value b) (touch s a)

-- the bounds of the pointer of this value that was read at an address, and the store then; None where a table is wanting
unfoldable pub load_bounds : BoundsStore → ℕ → ℕ → Option (Bounds × BoundsStore)
load_bounds s a value = option_map (λ t. (bounds_for value (t.kept (granule a)), t)) (touch s a)

-- ---- a store and what was asked of it

pub data StoreCall : Type 0 where
  Keeps : (at value : ℕ) → (bounds : Bounds) → StoreCall
  Loads : (at value : ℕ) → StoreCall

-- the store after a call
abbrev pub called : BoundsStore → StoreCall → Option BoundsStore
called s (Keeps at value b) = keep_bounds s at value b
called s (Loads at value) = option_map (λ p. p.1) (load_bounds s at value)

abbrev pub called_on : Option BoundsStore → StoreCall → Option BoundsStore
called_on None c = None
called_on (Some s) c = called s c

-- the store after these calls, the last one first; None once a table was wanting
abbrev pub store_after : List StoreCall → Option BoundsStore
store_after [] = Some empty_store
store_after (c ∷ earlier) = called_on (store_after earlier) c

-- what the last keep of a granule kept, among calls with the last one first
abbrev pub last_kept : ℕ → List StoreCall → Option Kept
last_kept g [] = None
last_kept g (Keeps at value b ∷ earlier) = if g == granule at then Some record { value = value; bounds = b } else last_kept g earlier
last_kept g (Loads at value ∷ earlier) = last_kept g earlier
