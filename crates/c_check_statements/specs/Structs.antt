-- Structs: a tag is known from its opening on, and the struct has a size once it is closed.
use Rattle.std.specs.Prelude.{◌≡◌, ℕ, ◌+◌, Bool, true, false, not, is_some, List, [], ◌∷◌, ◌++◌, length, map, slice_set, Option, None, Some, Result, Ok, Err}
use Rattle.mx_base.specs.declared.places.Place.{Place}
use Rattle.c_tree.specs.declared.tree.Decl.{Decl}
use Rattle.c_types.specs.Types.{CType}
use Rattle.c_types.specs.declared.layout.Layout.{Layout}
use Rattle.c_check_rules.specs.declared.names.StructInfo.{StructInfo}
use Rattle.c_check_rules.specs.declared.names.Member.{Member}
use Rattle.c_check_rules.specs.Sizes.{limit, scalars_in, counted}
use Rattle.c_check_rules.specs.Names.{last_at, member_names, tag_at}
use Rattle.c_check_typing.specs.declared.fault.CheckKind.TheVariants.{Twice, BadCount}
use Rattle.c_check_typing.specs.declared.fault.Broken.{Broken}
use Rattle.c_check_typing.specs.declared.fault.CheckFault.{CheckFault}
use Rattle.c_check_typing.specs.declared.fault.CheckFault.TheVariants.{Refused, OutOfMemory}
use Rattle.c_check_typing.specs.Refusals.{breaks, all_at, FirstIs, broken_at}
use Rattle.c_check_statements.specs.declared.state.State.{State}
use Rattle.c_check_statements.specs.Declarations.{Declared, member_known}
use Rattle.c_check_statements.specs.Placing.{struct_laid}
use Rattle.c_check_statements.specs.Walks.{Walked, Walk}

-- ---- members

-- a member of this name stands there already
abbrev pub is_member : List ℕ → List Member → Bool
is_member name members = is_some (last_at name (member_names members) 0 None)

abbrev pub member_declared : List Member → Decl → State → Declared
member_declared members d state = member_known (is_member d.name members) d state

abbrev pub with_member : List ℕ → Option CType → List Member → List Member
with_member name None members = members
with_member name (Some kind) members = members ++ record { name = name; kind = kind } ∷ []

-- members one after another: those that break no rule, what is known after them, and the rules that are broken in them
pub record Gathered : Type 0 where
  pub members : List Member
  pub state : State
  pub broken : List Broken

abbrev pub gathered_behind : List Broken → Gathered → Gathered
gathered_behind broken rest = record rest { broken = broken ++ rest.broken }

abbrev pub gathered : List Member → List Decl → State → Gathered
gathered members [] state = record { members = members; state = state; broken = [] }
gathered members (d ∷ more) state = gathered_behind (member_declared members d state).broken
    (gathered (with_member d.name (member_declared members d state).kind members) more (member_declared members d state).state)

-- ---- the struct

abbrev pub open_struct : List ℕ → StructInfo
open_struct tag = record { tag = tag; laid = None; scalars = 0; members = [] }

abbrev pub with_struct : List ℕ → State → State
with_struct tag state = record state { scope = record state.scope { structs = state.scope.structs ++ open_struct tag ∷ [] } }

abbrev pub kinds_in : List Member → List CType
kinds_in = map (λ x. x.kind)

-- the scalars of the members, counted to 65
abbrev pub scalars_sum : List StructInfo → (scalars : ℕ) → List CType → ℕ
scalars_sum structs scalars [] = scalars
scalars_sum structs scalars (kind ∷ more) = scalars_sum structs (counted (scalars + scalars_in structs kind)) more

abbrev pub laid_struct : List StructInfo → List Member → Option Layout
laid_struct structs members = struct_laid limit structs (kinds_in members)

abbrev pub closed_struct : List ℕ → Option Layout → (scalars : ℕ) → List Member → StructInfo
closed_struct tag laid scalars members = record { tag = tag; laid = laid; scalars = scalars; members = members }

-- the struct of this number is closed
abbrev pub closed : (number : ℕ) → List ℕ → List Member → State → State
closed number tag members state = record state {
  scope = record state.scope {
    structs = slice_set state.scope.structs number (closed_struct tag (laid_struct state.scope.structs members) (scalars_sum state.scope.structs 0 (kinds_in members)) members);
  };
}

-- a struct is BadCount where it is over the limit
abbrev pub close : (number : ℕ) → List ℕ → Place → Gathered → Walked
close number tag place g = record { state = closed number tag g.members g.state; broken = g.broken ++ all_at place (breaks BadCount (not (is_some (laid_struct g.state.scope.structs g.members)))) }

-- a tag that is known already is Twice, behind the members, and the struct declares nothing
abbrev pub refuse : Place → Gathered → Walked
refuse place g = record { state = g.state; broken = g.broken ++ all_at place (Twice ∷ []) }

abbrev pub struct_by : (known : Bool) → List ℕ → List Decl → Place → Walk
struct_by true tag members place state = refuse place (gathered [] members state)
struct_by false tag members place state = close (length state.scope.structs) tag place (gathered [] members (with_struct tag state))

abbrev pub struct_walk : List ℕ → List Decl → Place → Walk
struct_walk tag members place state = struct_by (is_some (tag_at state.scope tag)) tag members place state

-- ---- what is answered

abbrev pub gathers : Gathered → Result (Unit {0}) CheckFault → (members : List Member) → (new : State) → Type 0
gathers g (Ok done) members new = (g.broken ≡ []) × (members ≡ g.members) × (new ≡ g.state)
gathers g (Err (Refused kind at)) members new = FirstIs g.broken (broken_at at kind)
gathers g (Err OutOfMemory) members new = Unit {0}

pub record Gathers (g : Gathered) (result : Result (Unit {0}) CheckFault) (members : List Member) (new : State) : Type 0 where
  pub is : gathers g result members new

-- one member more
abbrev pub adds_member : List Member → Decl → (old : State) → Result (Unit {0}) CheckFault → (members : List Member) → (new : State) → Type 0
adds_member before d old (Ok done) members new = ((member_declared before d old).broken ≡ []) × (members ≡ with_member d.name (member_declared before d old).kind before)
    × (new ≡ (member_declared before d old).state)
adds_member before d old (Err (Refused kind at)) members new = FirstIs (member_declared before d old).broken (broken_at at kind)
adds_member before d old (Err OutOfMemory) members new = Unit {0}

pub record AddsMember (before : List Member) (d : Decl) (old : State) (result : Result (Unit {0}) CheckFault) (members : List Member) (new : State) : Type 0 where
  pub is : adds_member before d old result members new

-- whether a struct with these members is within the limit
abbrev pub has_layout : State → List Member → Bool
has_layout state members = is_some (laid_struct state.scope.structs members)
