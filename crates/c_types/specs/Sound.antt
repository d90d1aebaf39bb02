-- What holds of every table: what it keeps is what the definitions say.
use Rattle.std.specs.Prelude.{◌≡◌, ℕ, ◌<◌, ◌≤◌, List, [], ◌∷◌, true, false, map, reverse, length, slice_index_or, Option, None, Some}
use Rattle.std.specs.List.{AllByRecursion}
use Rattle.std.specs.Map.{keys_of}
use Rattle.c_types.specs.declared.shape.TypeId.{TypeId}
use Rattle.c_types.specs.declared.shape.Shape.{Shape}
use Rattle.c_types.specs.declared.shape.Shape.TheVariants as s
use Rattle.c_types.specs.declared.layout.Layout.{Layout}
use Rattle.c_types.specs.declared.layout.StructLayout.{StructLayout}
use Rattle.c_types.specs.Types.{CType, Void, Int, Pointer, Array, Struct, StructType, Ended, Types, AllDiffer, types_of, structs_of, is_ended, members_of}
use Rattle.c_types.specs.Layouts.{no_layout, layout_of, layout_of_struct, offsets_from}

abbrev pub table_of : List (Shape × Layout) → List (Option StructLayout) → List Ended → Types
table_of entries structs ended = record { shapes = keys_of entries; begun = length structs; ended = reverse ended }

-- the shape of the type n names earlier types, and structs that were begun
abbrev pub NamesBelow : ℕ → ℕ → Shape → Type 0
NamesBelow begun n s.Void = Unit {0}
NamesBelow begun n (s.Int kind) = Unit {0}
NamesBelow begun n (s.Pointer target) = target.0 < n
NamesBelow begun n (s.Array element count) = element.0 < n
NamesBelow begun n (s.Struct number) = number < begun

abbrev pub AllNameBelow : ℕ → List Shape → Type 0
AllNameBelow begun shapes = (i : ℕ) (d : Shape) → i < length shapes → NamesBelow begun i (slice_index_or shapes i d)

-- the size of a type stays, whatever comes
abbrev pub IsSized : List StructType → CType → Type 0
IsSized structs Void = ⊥
IsSized structs (Int kind) = Unit {0}
IsSized structs (Pointer target) = Unit {0}
IsSized structs (Array element count) = IsSized structs element
IsSized structs (Struct number) = is_ended structs number ≡ true

-- the elements of an array have a size, and it and their count are within the limits
abbrev pub IsWithinLimits : List StructType → CType → Type 0
IsWithinLimits structs Void = Unit {0}
IsWithinLimits structs (Int kind) = Unit {0}
IsWithinLimits structs (Pointer target) = Unit {0}
IsWithinLimits structs (Array element count) = IsSized structs element × ((layout_of structs element).size ≤ 16777216) × (1 ≤ count) × (count ≤ 16777216)
IsWithinLimits structs (Struct number) = Unit {0}

-- each struct was given its members once, and they had sizes
abbrev pub AreEnded : List StructType → Type 0
AreEnded [] = Unit {0}
AreEnded (e ∷ earlier) = (is_ended earlier e.number ≡ false) × AllByRecursion (IsSized earlier) e.members × AreEnded earlier

-- a struct with its members names what the table has
abbrev pub IsEndedIn : ℕ → ℕ → Ended → Type 0
IsEndedIn begun n e = (e.number < begun) × AllByRecursion (λ (m : TypeId). m.0 < n) e.members

-- what is kept with each type: its layout, but for a struct
abbrev pub kept_of : List StructType → CType → Layout
kept_of structs Void = no_layout
kept_of structs (Int kind) = layout_of structs (Int kind)
kept_of structs (Pointer target) = layout_of structs (Pointer target)
kept_of structs (Array element count) = layout_of structs (Array element count)
kept_of structs (Struct number) = no_layout

-- what is kept of each struct
abbrev pub IsLaid : List StructType → ℕ → Option StructLayout → Type 0
IsLaid structs number None = is_ended structs number ≡ false
IsLaid structs number (Some laid) = (is_ended structs number ≡ true) × (laid.layout ≡ layout_of_struct structs number)
    × (laid.offsets.items ≡ offsets_from 0 (map (layout_of structs) (members_of structs number)))

pub record IsSound (table : Types) (kept : List Layout) (structs : List (Option StructLayout)) : Type 0 where
  pub differ : AllDiffer table.shapes
  pub names : AllNameBelow table.begun table.shapes
  pub kept_is : kept ≡ map (kept_of (structs_of table)) (types_of table.shapes)
  pub elements : AllByRecursion (IsWithinLimits (structs_of table)) (types_of table.shapes)
  pub ended_in : AllByRecursion (IsEndedIn table.begun (length table.shapes)) table.ended
  pub ended : AreEnded (structs_of table)
  pub laid : (number : ℕ) (d : Option StructLayout) → number < length structs → IsLaid (structs_of table) number (slice_index_or structs number d)
