-- The types of a program, and what a table of types says.
use Rattle.std.specs.Prelude.{◌≡◌, ℕ, ◌<◌, List, [], ◌∷◌, ◌++◌, Bool, true, false, ◌||◌, ◌==◌, if◌then◌else◌, map, fold, length, slice_index_or, slice_get, Some}
use Rattle.mx_base.specs.declared.numbers.IntKind.{IntKind}
use Rattle.c_types.specs.declared.shape.TypeId.{TypeId}
use Rattle.c_types.specs.declared.shape.Shape.{Shape}
use Rattle.c_types.specs.declared.shape.Shape.TheVariants as s

-- a type: two are the same exactly where they are built alike, and two structs where they have one number
pub data CType : Type 0 where
  Void : CType
  Int : IntKind → CType
  Pointer : CType → CType
  Array : CType → ℕ → CType
  Struct : ℕ → CType

-- a struct with the types of its members, in order
pub record StructType : Type 0 where
  pub number : ℕ
  pub members : List CType

-- a struct with the numbers of its members' types
pub record Ended : Type 0 where
  pub number : ℕ
  pub members : List TypeId

-- what a table says: the shape of each type by the type's number, how many structs were begun, and those that were given
-- their members, the latest first
pub record Types : Type 0 where
  pub shapes : List Shape
  pub begun : ℕ
  pub ended : List Ended

abbrev pub no_types : Types
no_types = record { shapes = []; begun = 0; ended = [] }

-- no shape stands twice
abbrev pub AllDiffer : List Shape → Type 0
AllDiffer shapes = (a b : ℕ) (shape : Shape) → slice_get shapes a ≡ Some shape → slice_get shapes b ≡ Some shape → a ≡ b

-- no place has the shape
abbrev pub IsNew : List Shape → Shape → Type 0
IsNew shapes shape = (a : ℕ) → slice_get shapes a ≡ Some shape → ⊥

-- the type of a shape, by the types of the numbers that it names
abbrev pub built : (TypeId → CType) → Shape → CType
built at s.Void = Void
built at (s.Int kind) = Int kind
built at (s.Pointer target) = Pointer (at target)
built at (s.Array element count) = Array (at element) count
built at (s.Struct number) = Struct number

-- the types of the shapes in order, each built of those before it
abbrev pub types_of : List Shape → List CType
types_of shapes = fold (λ before shape. before ++ built (λ t. slice_index_or before t.0 Void) shape ∷ []) [] shapes

abbrev pub type_at : Types → TypeId → CType
type_at table t = slice_index_or (types_of table.shapes) t.0 Void

abbrev pub structs_of : Types → List StructType
structs_of table = map (λ e. record { number = e.number; members = map (type_at table) e.members }) table.ended

-- whether a struct was given its members
abbrev pub is_given : List Ended → ℕ → Bool
is_given [] number = false
is_given (e ∷ earlier) number = (e.number == number) || is_given earlier number

-- a struct that was begun and not yet given its members
abbrev pub IsOpen : Types → ℕ → Type 0
IsOpen table number = (number < table.begun) × (is_given table.ended number ≡ false)

abbrev pub IsIn : Types → TypeId → Type 0
IsIn table t = t.0 < length table.shapes

-- whether a struct has its members
abbrev pub is_ended : List StructType → ℕ → Bool
is_ended [] number = false
is_ended (e ∷ earlier) number = (e.number == number) || is_ended earlier number

-- the members of a struct, none where it has none yet
abbrev pub members_of : List StructType → ℕ → List CType
members_of [] number = []
members_of (e ∷ earlier) number = if e.number == number then e.members else members_of earlier number

-- every type has a size but `void` and a struct without its members
abbrev pub has_size : List StructType → CType → Bool
has_size structs Void = false
has_size structs (Int kind) = true
has_size structs (Pointer target) = true
has_size structs (Array element count) = true
has_size structs (Struct number) = is_ended structs number

abbrev pub HasSize : Types → TypeId → Type 0
HasSize table t = has_size (structs_of table) (type_at table t) ≡ true

-- the types of the members of a struct
abbrev pub members_in : List StructType → CType → List CType
members_in structs Void = []
members_in structs (Int kind) = []
members_in structs (Pointer target) = []
members_in structs (Array element count) = []
members_in structs (Struct number) = members_of structs number

abbrev pub members_at : Types → TypeId → List CType
members_at table t = members_in (structs_of table) (type_at table t)
