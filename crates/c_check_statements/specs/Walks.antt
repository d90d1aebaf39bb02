-- Walks through a tree: what is known after a part of it, and the rules that are broken in it, in tree order.
use Rattle.std.specs.Prelude.{◌≡◌, false, List, [], ◌∷◌, ◌++◌, Option, None, Some, Result, Ok, Err}
use Rattle.mx_base.specs.declared.places.Place.{Place}
use Rattle.c_tree.specs.declared.tree.Expr.{Expr}
use Rattle.c_check_typing.specs.declared.typed.Typed.{Typed}
use Rattle.c_check_typing.specs.declared.fault.CheckKind.{CheckKind}
use Rattle.c_check_typing.specs.declared.fault.Broken.{Broken}
use Rattle.c_check_typing.specs.declared.fault.CheckFault.{CheckFault}
use Rattle.c_check_typing.specs.declared.fault.CheckFault.TheVariants.{Refused, OutOfMemory}
use Rattle.c_check_typing.specs.Refusals.{FirstIs, broken_at, all_at}
use Rattle.c_check_typing.specs.Notes.{Seen}
use Rattle.c_check_typing.specs.Expressions.{seen}
use Rattle.c_check_statements.specs.declared.state.State.{State}

-- what is known after a part, and the rules that are broken in it
pub record Walked : Type 0 where
  pub state : State
  pub broken : List Broken

abbrev pub Walk : Type 0
Walk = State → Walked

abbrev pub stay : Walk
stay state = record { state = state; broken = [] }

-- one after another: the second knows what the first declared
infixr 10 ◌then◌
unfoldable pub ◌then◌ : Walk → Walk → Walk
(a then b) state = record { state = (b (a state).state).state; broken = (a state).broken ++ (b (a state).state).broken }

abbrev pub maybe : Option Walk → Walk
maybe None = stay
maybe (Some a) = a

abbrev pub walk_all : List Walk → Walk
walk_all [] = stay
walk_all (a ∷ more) = a then walk_all more

-- a node that breaks these rules
unfoldable pub at_node : Place → List CheckKind → Walk
at_node place kinds state = record { state = state; broken = all_at place kinds }

-- a walk in a state that is made for it, and left behind it
unfoldable pub inside : (enter : State → State) → Walk → (leave : (old new : State) → State) → Walk
inside enter walk leave state = record { state = leave state (walk (enter state)).state; broken = (walk (enter state)).broken }

-- ---- expressions

-- what is seen of an expression where no name of a function may stand
abbrev pub seen_in : State → Expr → Seen
seen_in state x = seen x false state.scope

-- past an expression
unfoldable pub past : Seen → Walk
past x state = record { state = record state { notes = x.after state.notes }; broken = x.broken }

abbrev pub reads : Expr → Walk
reads x state = past (seen_in state x) state

abbrev pub maybe_reads : Option Expr → Walk
maybe_reads None = stay
maybe_reads (Some x) = reads x

-- ---- what is answered where the first broken rule ends a walk

-- what is known after a walk that breaks no rule, or the first rule that is broken in it
abbrev pub walks : Walked → Result (Unit {0}) CheckFault → (new : State) → Type 0
walks w (Ok done) new = (w.broken ≡ []) × (new ≡ w.state)
walks w (Err (Refused kind at)) new = FirstIs w.broken (broken_at at kind)
walks w (Err OutOfMemory) new = Unit {0}

pub record Walks (w : Walked) (result : Result (Unit {0}) CheckFault) (new : State) : Type 0 where
  pub is : walks w result new

-- the same of an expression, with what is known of its value
abbrev pub reads_value : Option Typed → Walked → Result Typed CheckFault → (new : State) → Type 0
reads_value typed w (Ok t) new = (w.broken ≡ []) × (typed ≡ Some t) × (new ≡ w.state)
reads_value typed w (Err (Refused kind at)) new = FirstIs w.broken (broken_at at kind)
reads_value typed w (Err OutOfMemory) new = Unit {0}

pub record ReadsValue (typed : Option Typed) (w : Walked) (result : Result Typed CheckFault) (new : State) : Type 0 where
  pub is : reads_value typed w result new

-- a node that breaks these rules, in their order
abbrev pub judges : List CheckKind → Place → Result (Unit {0}) CheckFault → Type 0
judges kinds place (Ok done) = kinds ≡ []
judges kinds place (Err (Refused kind at)) = FirstIs (all_at place kinds) (broken_at at kind)
judges kinds place (Err OutOfMemory) = Unit {0}

pub record Judges (kinds : List CheckKind) (place : Place) (result : Result (Unit {0}) CheckFault) : Type 0 where
  pub is : judges kinds place result
