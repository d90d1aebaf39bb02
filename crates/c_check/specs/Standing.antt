-- What holds of all that is known of an accepted source: its types can be numbered, each struct by what stands before it.
use Rattle.std.specs.Prelude.{◌≡◌, ℕ, ◌+◌, ◌≤◌, true, List, [], ◌∷◌, ◌++◌, length, All, Some}
use Rattle.c_types.specs.declared.layout.Layout.{Layout}
use Rattle.c_types.specs.Types.{CType, Void, Int, Pointer, Array, Struct, StructType}
use Rattle.c_check_rules.specs.declared.names.StructInfo.{StructInfo}
use Rattle.c_check_rules.specs.declared.names.Variable.{Variable}
use Rattle.c_check_rules.specs.Sizes.{is_within, is_sized}
use Rattle.c_check_statements.specs.declared.state.State.{State}
use Rattle.c_check_statements.specs.declared.state.Body.{Body}
use Rattle.c_check_statements.specs.declared.state.BodyVariable.{BodyVariable}
use Rattle.c_check_statements.specs.Structs.{kinds_in, laid_struct, open_struct}

-- ---- the structs as their members' types make them, the latest first

abbrev pub structs_from : (number : ℕ) → (earlier : List StructType) → List StructInfo → List StructType
structs_from number earlier [] = earlier
structs_from number earlier (s ∷ more) = structs_from (number + 1) (record { number = number; members = kinds_in s.members } ∷ earlier) more

abbrev pub structs_seen : List StructInfo → List StructType
structs_seen structs = structs_from 0 [] structs

-- ---- types

-- the arrays and pointers around a type's core
abbrev pub layers_of : CType → ℕ
layers_of Void = 0
layers_of (Int kind) = 0
layers_of (Pointer target) = layers_of target + 1
layers_of (Array element count) = layers_of element + 1
layers_of (Struct number) = 0

-- a type that may stand, and isn't deeper than 255 stars and as many more layers as a source has nodes
abbrev pub Stands : List StructInfo → CType → Type 0
Stands structs kind = (is_within structs kind ≡ true) × (layers_of kind ≤ 33023)

-- one of which there are values
abbrev pub HoldsValues : List StructInfo → CType → Type 0
HoldsValues structs kind = Stands structs kind × (is_sized structs kind ≡ true)

-- ---- structs

-- the members of a struct stand by the structs before it and the struct itself as long as it is open, and it has the layout that they make
pub record IsLaid (before : List StructInfo) (s : StructInfo) : Type 0 where
  pub members : All (HoldsValues (before ++ open_struct s.tag ∷ [])) (kinds_in s.members)
  pub some : 1 ≤ length s.members
  pub few : length s.members ≤ 32768
  pub layout : Layout
  pub laid : s.laid ≡ Some layout
  pub by_members : laid_struct (before ++ open_struct s.tag ∷ []) s.members ≡ Some layout

abbrev pub AreLaid : (before : List StructInfo) → List StructInfo → Type 0
AreLaid before [] = Unit {0}
AreLaid before (s ∷ more) = IsLaid before s × AreLaid (before ++ s ∷ []) more

-- ---- counts

abbrev pub members_in_all : List StructInfo → ℕ
members_in_all [] = 0
members_in_all (s ∷ more) = length s.members + members_in_all more

abbrev pub variables_in_all : List Body → ℕ
variables_in_all [] = 0
variables_in_all (b ∷ more) = length b.variables + variables_in_all more

-- how many types are known of a source: of its expressions, declarations, members, variables and parameters
abbrev pub types_known : State → ℕ
types_known state = length state.notes.kinds + (length state.notes.declared + (members_in_all state.scope.structs
    + (length state.scope.variables + variables_in_all state.bodies)))

-- ---- what is known

abbrev pub VariableStands : List StructInfo → Variable → Type 0
VariableStands structs v = HoldsValues structs v.kind

abbrev pub BodyVariableStands : List StructInfo → BodyVariable → Type 0
BodyVariableStands structs v = HoldsValues structs v.kind

abbrev pub BodyStands : List StructInfo → Body → Type 0
BodyStands structs b = All (BodyVariableStands structs) b.variables

pub record CanBeNumbered (state : State) : Type 0 where
  pub structs : AreLaid [] state.scope.structs
  pub kinds : All (Stands state.scope.structs) state.notes.kinds
  pub declared : All (Stands state.scope.structs) state.notes.declared
  pub variables : All (VariableStands state.scope.structs) state.scope.variables
  pub bodies : All (BodyStands state.scope.structs) state.bodies
  pub few : types_known state ≤ 98304
