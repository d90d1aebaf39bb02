-- What a checked source says: the same as is known of it, with its types by their numbers in a table.
use Rattle.std.specs.Prelude.{◌≡◌, ℕ, ◌≤◌, List, [], ◌∷◌, map, All}
use Rattle.c_tree.specs.declared.tree.Tree.{Tree}
use Rattle.c_tree.specs.Formed.{IsFormed}
use Rattle.c_types.specs.declared.shape.TypeId.{TypeId}
use Rattle.c_types.specs.Types.{CType, Types, type_at, structs_of, IsIn}
use Rattle.c_types.specs.Layouts.{CanStand}
use Rattle.c_check_rules.specs.declared.names.Variable.{Variable}
use Rattle.c_check_rules.specs.declared.names.StructInfo.{StructInfo}
use Rattle.c_check_statements.specs.Structs.{kinds_in}
use Rattle.c_check_typing.specs.declared.fault.CheckFault.{CheckFault}
use Rattle.c_check_typing.specs.declared.fault.CheckFault.TheVariants.{Refused, OutOfMemory}
use Rattle.c_check_typing.specs.Refusals.{broken_at, FirstIs}
use Rattle.c_check_statements.specs.declared.state.State.{State}
use Rattle.c_check_statements.specs.declared.state.Body.{Body}
use Rattle.c_check_statements.specs.declared.state.BodyVariable.{BodyVariable}
use Rattle.c_check.specs.declared.checked.GlobalVariable.{GlobalVariable}
use Rattle.c_check.specs.declared.checked.LocalVariable.{LocalVariable}
use Rattle.c_check.specs.declared.checked.CheckedBody.{CheckedBody}
use Rattle.c_check.specs.declared.checked.CheckedStruct.{CheckedStruct}
use Rattle.c_check.specs.declared.checked.Checked.{Checked}
use Rattle.c_check.specs.Accepted.{IsAccepted, after, broken}
use Rattle.c_check.specs.Standing.{structs_seen}
use Rattle.c_check.specs.Symbols.{symbols}

-- the types of these numbers
abbrev pub types_at : Types → List TypeId → List CType
types_at table ids = map (type_at table) ids

-- numbers of these types
pub record Number (table : Types) (ids : List TypeId) (kinds : List CType) : Type 0 where
  pub in_table : All (IsIn table) ids
  pub types : types_at table ids ≡ kinds

-- a variable with the number of its type, of which there are values
abbrev pub local_kinds : List LocalVariable → List TypeId
local_kinds = map (λ v. v.kind)

abbrev pub global_kinds : List GlobalVariable → List TypeId
global_kinds = map (λ v. v.kind)

pub record IsLocals (table : Types) (locals : List LocalVariable) (variables : List BodyVariable) : Type 0 where
  pub can_stand : All (CanStand table) (local_kinds locals)
  pub types : types_at table (local_kinds locals) ≡ map (λ v. v.kind) variables
  pub taken : map (λ v. v.taken) locals ≡ map (λ v. v.taken) variables

pub record IsGlobals (table : Types) (globals : List GlobalVariable) (variables : List Variable) : Type 0 where
  pub can_stand : All (CanStand table) (global_kinds globals)
  pub types : types_at table (global_kinds globals) ≡ map (λ v. v.kind) variables
  pub defined : map (λ v. v.defined) globals ≡ map (λ v. v.defined) variables

-- bodies in order, each with its function's number and its variables
abbrev pub AreBodies : Types → List CheckedBody → List Body → Type 0
AreBodies table [] [] = Unit {0}
AreBodies table [] (b ∷ more) = ⊥
AreBodies table (c ∷ others) [] = ⊥
AreBodies table (c ∷ others) (b ∷ more) = (c.number ≡ b.number) × IsLocals table c.variables b.variables × AreBodies table others more

-- structs in order, each with the numbers of its members' types
pub record IsStruct (table : Types) (members : List TypeId) (kinds : List CType) : Type 0 where
  pub can_stand : All (CanStand table) members
  pub types : types_at table members ≡ kinds

abbrev pub AreStructs : Types → List CheckedStruct → List StructInfo → Type 0
AreStructs table [] [] = Unit {0}
AreStructs table [] (s ∷ more) = ⊥
AreStructs table (c ∷ others) [] = ⊥
AreStructs table (c ∷ others) (s ∷ more) = IsStruct table c.members (kinds_in s.members) × AreStructs table others more

-- what is checked says what is known
pub record Says (state : State) (c : Checked) : Type 0 where
  pub structs : structs_of c.types ≡ structs_seen state.scope.structs
  pub kinds : Number c.types c.kinds state.notes.kinds
  pub binds : c.binds ≡ state.notes.binds
  pub declared : Number c.types c.declared state.notes.declared
  pub variables : IsGlobals c.types c.variables state.scope.variables
  pub bodies : AreBodies c.types c.bodies state.bodies
  pub structs_known : AreStructs c.types c.structs state.scope.structs
  pub global_items : c.global_items ≡ state.global_items
  pub constants : c.constants ≡ state.notes.constants
  pub literals : c.literals ≡ state.notes.literals

-- an answer that may be given for an accepted tree, which is formed; the symbols are those of the tree
pub record IsChecked (tree : Tree) (c : Checked) : Type 0 where
  pub room : ℕ
  pub few : room ≤ 32768
  pub formed : IsFormed tree
  pub accepted : IsAccepted tree room
  pub says : Says (after tree) c
  pub symbols : c.symbols ≡ symbols tree

-- the first broken rule is told with its place; want of memory says nothing
abbrev pub IsRefusal : Tree → (room : ℕ) → CheckFault → Type 0
IsRefusal tree room (Refused kind place) = FirstIs (broken tree room) (broken_at place kind)
IsRefusal tree room OutOfMemory = Unit {0}

-- a source is accepted, and this is said of it
abbrev pub SaysOf : Tree → (room : ℕ) → Checked → Type 0
SaysOf tree room c = IsAccepted tree room × Says (after tree) c × (c.symbols ≡ symbols tree)
