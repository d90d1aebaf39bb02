-- How types get numbers in a table: first the core, then its layers from the innermost to the outermost.
use Rattle.std.specs.Prelude.{◌≡◌, ℕ, ◌+◌, ◌<◌, ◌≤◌, true, List, ◌∷◌, map, All}
use Rattle.std.specs.List.{AllByRecursion}
use Rattle.c_types.specs.declared.shape.TypeId.{TypeId}
use Rattle.c_types.specs.declared.shape.Shape.{Shape}
use Rattle.c_types.specs.declared.shape.Shape.TheVariants as s
use Rattle.c_types.specs.Types.{CType, Void, Int, Pointer, Array, Struct, StructType, Ended, Types, has_size, structs_of, type_at, IsIn}
use Rattle.c_types.specs.Layouts.{layout_of, Extends}
use Rattle.c_check_rules.specs.declared.kinds.Core.{Core}
use Rattle.c_check_rules.specs.declared.kinds.Core.TheVariants as c
use Rattle.c_check_rules.specs.declared.kinds.Layer.{Layer}
use Rattle.c_check_rules.specs.declared.kinds.Layer.TheVariants as l
use Rattle.c_check_rules.specs.declared.names.StructInfo.{StructInfo}
use Rattle.c_check_rules.specs.declared.names.Variable.{Variable}
use Rattle.c_check_statements.specs.declared.state.Body.{Body}
use Rattle.c_check_statements.specs.declared.state.BodyVariable.{BodyVariable}
use Rattle.c_check_statements.specs.Structs.{kinds_in}
use Rattle.c_check.specs.Standing.{layers_of}

abbrev pub core_shape : Core → Shape
core_shape c.Void = s.Void
core_shape (c.Int kind) = s.Int kind
core_shape (c.Struct number) = s.Struct number

abbrev pub layer_shape : Layer → (inner : TypeId) → Shape
layer_shape l.Pointer inner = s.Pointer inner
layer_shape (l.Array count) inner = s.Array inner count

-- ---- what can be numbered

-- a type has a size within the limit
abbrev pub IsElement : List StructType → CType → Type 0
IsElement structs kind = (has_size structs kind ≡ true) × ((layout_of structs kind).size ≤ 16777216)

-- the structs of a type are begun, and the elements and counts of its arrays are within the limits
abbrev pub CanBeBuilt : List StructType → (begun : ℕ) → CType → Type 0
CanBeBuilt structs begun Void = Unit {0}
CanBeBuilt structs begun (Int kind) = Unit {0}
CanBeBuilt structs begun (Pointer target) = CanBeBuilt structs begun target
CanBeBuilt structs begun (Array element count) = CanBeBuilt structs begun element × IsElement structs element × (1 ≤ count) × (count ≤ 16777216)
CanBeBuilt structs begun (Struct number) = number < begun

abbrev pub HasNumber : List StructType → (begun : ℕ) → CType → Type 0
HasNumber structs begun kind = CanBeBuilt structs begun kind × (layers_of kind ≤ 33023)

-- one of which there are values
abbrev pub HoldsNumber : List StructType → (begun : ℕ) → CType → Type 0
HoldsNumber structs begun kind = HasNumber structs begun kind × IsElement structs kind

abbrev pub global_types : List Variable → List CType
global_types = map (λ v. v.kind)

abbrev pub local_types : List BodyVariable → List CType
local_types = map (λ v. v.kind)

abbrev pub BodyHasNumbers : List StructType → (begun : ℕ) → Body → Type 0
BodyHasNumbers structs begun b = All (HoldsNumber structs begun) (local_types b.variables)

-- ---- tables

-- the members of structs are in the table
abbrev pub HasMembers : Types → Ended → Type 0
HasMembers table e = All (IsIn table) e.members

abbrev pub KnowsMembers : Types → Type 0
KnowsMembers table = AllByRecursion (HasMembers table) table.ended

-- a table with more types, and the same structs
pub record Grows (old new : Types) : Type 0 where
  pub extends : Extends old new
  pub begun : new.begun ≡ old.begun
  pub ended : new.ended ≡ old.ended

-- the number of a type
abbrev pub Numbers : Types → TypeId → CType → Type 0
Numbers table t kind = IsIn table t × (type_at table t ≡ kind)

abbrev pub struct_type : (number : ℕ) → StructInfo → StructType
struct_type number info = record { number = number; members = kinds_in info.members }

-- a table with one struct more
pub record HasStruct (old new : Types) (info : StructInfo) : Type 0 where
  pub begun : new.begun ≡ old.begun + 1
  pub structs : structs_of new ≡ struct_type old.begun info ∷ structs_of old
  pub members : KnowsMembers new
