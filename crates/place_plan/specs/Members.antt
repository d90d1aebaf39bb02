-- The types of parts by their numbers in a table.
use Rattle.std.specs.Prelude.{◌≡◌, ℕ, ◌≤◌, List, [], map, length, All, slice_get, Option, None, Some}
use Rattle.c_types.specs.declared.shape.TypeId.{TypeId}
use Rattle.c_types.specs.Types.{Types, type_at, structs_of, members_of, IsIn, HasSize}
use Rattle.c_types.specs.Layouts.{CanStand}
use Rattle.c_check.specs.declared.checked.CheckedStruct.{CheckedStruct}
use Rattle.place_plan.specs.declared.initialisers.Piece.{Piece}
use Rattle.place_plan.specs.Initialisers.{Part}

-- a type of the table of which there are values
abbrev pub HasValues : Types → TypeId → Type 0
HasValues table t = IsIn table t × HasSize table t

abbrev pub part_typed : Types → Piece → Part
part_typed table p = record { type = type_at table p.kind; offset = p.offset }

abbrev pub members_or_none : Option CheckedStruct → List TypeId
members_or_none None = []
members_or_none (Some s) = s.members

abbrev pub known_members : List CheckedStruct → (number : ℕ) → List TypeId
known_members structs number = members_or_none (slice_get structs number)

-- these are the structs of the table, each with the numbers of its members' types
pub record AreKnown (table : Types) (structs : List CheckedStruct) : Type 0 where
  pub types : (number : ℕ) → map (type_at table) (known_members structs number) ≡ members_of (structs_of table) number
  pub stand : (number : ℕ) → All (CanStand table) (known_members structs number)
  pub few : (number : ℕ) → length (known_members structs number) ≤ 32768
