-- From the walks through the parts of a statement, the walk through blocks, loops and `return`.
use Rattle.std.proofs.Common.{◌≡◌, refl, sym, subst, Bool, false, []}
use Rattle.std.specs.Prelude.{Option, Result, Ok, Err}
use Rattle.mx_base.specs.declared.places.Place.{Place}
use Rattle.c_tree.specs.declared.tree.Expr.{Expr}
use Rattle.c_check_typing.specs.declared.fault.CheckFault.{CheckFault}
use Rattle.c_check_statements.specs.declared.state.State.{State}
use Rattle.c_check_statements.specs.Walks.{Walk, Walks, stay, ◌then◌, at_node}
use Rattle.c_check_statements.specs.Statements.{block, block_by, enter_block, leave_block, for_rest, return_walk}
use Rattle.c_check_statements.proofs.Steps.{then_ends, then_stops, node_ends, inside_ends, inside_stops}

-- the same walk in the same state, written otherwise
pub in_state : (w : Walk) {s z new : State} {r : Result (Unit {0}) CheckFault} → s ≡ z → Walks (w s) r new → Walks (w z) r new
in_state w {new = new} {r = r} e h = subst (λ (x : State). Walks (w x) r new) e h

pub stay_ends : {s : State} → Walks (stay s) (Ok tt) s
stay_ends = record { is = (refl, refl) }

-- a node without rules adds nothing
pub then_nothing : (a : Walk) (place : Place) {old new : State} (r : Result (Unit {0}) CheckFault) → Walks (a old) r new → Walks ((a then at_node place []) old) r new
then_nothing a place (Ok done) h = then_ends a (at_node place []) h (node_ends record { is = refl })
then_nothing a place (Err x) h = then_stops a (at_node place []) h refl

-- ---- blocks

pub block_stops : (w : Walk) (old : State) {given mid : State} {x : CheckFault} {r : Result (Unit {0}) CheckFault} → old.scope.at_body ≡ false
    → Walks (w given) (Err x) mid → r ≡ Err x → given ≡ enter_block old → Walks (block w old) r mid
block_stops w old {mid = mid} {r = r} b h e g =
    subst (λ (t : Bool). Walks (block_by t w old) r mid) (sym b) (inside_stops enter_block w leave_block (in_state w g h) e)

pub block_ends : (w : Walk) (old : State) {given mid new : State} {t : Unit {0}} → old.scope.at_body ≡ false
    → Walks (w given) (Ok t) mid → new ≡ leave_block old mid → given ≡ enter_block old → Walks (block w old) (Ok tt) new
block_ends w old {new = new} b h e g =
    subst (λ (t : Bool). Walks (block_by t w old) (Ok tt) new) (sym b) (inside_ends enter_block w leave_block (in_state w g h) e)

-- ---- parts that may be missing

pub for_as : (next : Option Expr) (body : Walk) (place : Place) (old : State) {x y : Option Expr} {new : State} {r : Result (Unit {0}) CheckFault}
    → x ≡ y → Walks (for_rest y next body place old) r new → Walks (for_rest x next body place old) r new
for_as next body place old {new = new} {r = r} e h = subst (λ (z : Option Expr). Walks (for_rest z next body place old) r new) (sym e) h

pub return_as : (place : Place) (old : State) {x y : Option Expr} {new : State} {r : Result (Unit {0}) CheckFault}
    → x ≡ y → Walks (return_walk y place old) r new → Walks (return_walk x place old) r new
return_as place old {new = new} {r = r} e h = subst (λ (z : Option Expr). Walks (return_walk z place old) r new) (sym e) h
