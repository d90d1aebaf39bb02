-- From the walks through parts, the walk through the whole.
use Rattle.std.proofs.Common.{ℕ, suc, ◌+◌, ◌<◌, ◌≤◌, ◌≡◌, refl, sym, ◌∙◌, ap, subst, List, [], ◌∷◌, ◌++◌, length, map, drop, drop-cons, slice_index_or, add-one}
use Rattle.std.proofs.lemmas.List.{drop_all}
use Rattle.std.specs.Prelude.{Option, Some, Result, Ok, Err}
use Rattle.mx_base.specs.declared.places.Place.{Place}
use Rattle.c_tree.specs.declared.tree.Expr.{Expr}
use Rattle.c_types.specs.Types.{CType}
use Rattle.c_check_typing.specs.declared.typed.Typed.{Typed}
use Rattle.c_check_typing.specs.declared.typed.Notes.{Notes}
use Rattle.c_check_typing.specs.Notes.{Reads}
use Rattle.c_check_typing.specs.declared.fault.CheckKind.{CheckKind}
use Rattle.c_check_typing.specs.declared.fault.Broken.{Broken}
use Rattle.c_check_typing.specs.declared.fault.CheckFault.{CheckFault}
use Rattle.c_check_typing.specs.declared.fault.CheckFault.TheVariants.{Refused, OutOfMemory}
use Rattle.c_check_typing.specs.Refusals.{FirstIs, all_at}
use Rattle.c_check_statements.specs.declared.state.State.{State}
use Rattle.c_check_statements.specs.Walks.{Walked, Walk, ◌then◌, walk_all, at_node, inside, past, reads, seen_in, Walks, ReadsValue, Judges}
use Rattle.c_check_statements.specs.Declarations.{Declared, Declares, and_then}

first_stays : {xs : List Broken} {b : Broken} (ys : List Broken) → FirstIs xs b → FirstIs (xs ++ ys) b
first_stays ys h = record { more = h.more ++ ys; is = ap (λ (z : List Broken). z ++ ys) h.is }

-- ---- one after another

pub then_ends : (a b : Walk) {old mid new : State} {t : Unit {0}} {r : Result (Unit {0}) CheckFault} → Walks (a old) (Ok t) mid → Walks (b mid) r new → Walks ((a then b) old) r new
unfolding ◌then◌
then_ends a b {old = old} {mid = mid} {new = new} {t = t} {r = r} h k =
    subst (λ (s : State). Walks (record { state = (b s).state; broken = (a old).broken ++ (b s).broken }) r new) h.is.1
    (subst (λ (bs : List Broken). Walks (record { state = (b mid).state; broken = bs ++ (b mid).broken }) r new) (sym h.is.0) k)

stops : (a b : Walk) {old mid : State} (x : CheckFault) → Walks (a old) (Err x) mid → Walks ((a then b) old) (Err x) mid
unfolding ◌then◌
stops a b {old = old} (Refused kind at) h = record { is = first_stays (b (a old).state).broken h.is }
stops a b OutOfMemory h = record { is = tt }

pub then_stops : (a b : Walk) {old mid : State} {x : CheckFault} {r : Result (Unit {0}) CheckFault} → Walks (a old) (Err x) mid → r ≡ Err x → Walks ((a then b) old) r mid
then_stops a b {old = old} {mid = mid} {x = x} h e = subst (λ (q : Result (Unit {0}) CheckFault). Walks ((a then b) old) q mid) (sym e) (stops a b x h)

-- ---- nodes

node_judged : {place : Place} {kinds : List CheckKind} {old : State} (r : Result (Unit {0}) CheckFault) → Judges kinds place r → Walks (at_node place kinds old) r old
unfolding at_node
node_judged {place = place} (Ok done) h = record { is = (ap (λ (ks : List CheckKind). all_at place ks) h.is, refl) }
node_judged (Err (Refused kind at)) h = record { is = h.is }
node_judged (Err OutOfMemory) h = record { is = tt }

pub node_ends : {place : Place} {kinds : List CheckKind} {old : State} {r : Result (Unit {0}) CheckFault} → Judges kinds place r → Walks (at_node place kinds old) r old
node_ends {r = r} h = node_judged r h

-- a node whose rules speak of a value that was read before
pub node_of : {place : Place} (kinds : Option Typed → List CheckKind) {typed : Option Typed} {t : Typed} {old : State} {r : Result (Unit {0}) CheckFault}
    → typed ≡ Some t → Judges (kinds (Some t)) place r → Walks (at_node place (kinds typed) old) r old
node_of {place = place} kinds {old = old} {r = r} e h = subst (λ (x : Option Typed). Walks (at_node place (kinds x) old) r old) (sym e) (node_ends h)

-- ---- expressions

pub value_is : {typed : Option Typed} {w : Walked} {t : Typed} {new : State} → ReadsValue typed w (Ok t) new → typed ≡ Some t
value_is h = h.is.1

pub value_ends : {typed : Option Typed} {w : Walked} {t : Typed} {new : State} → ReadsValue typed w (Ok t) new → Walks w (Ok tt) new
value_ends h = record { is = (h.is.0, h.is.2) }

value_stops_by : {typed : Option Typed} {w : Walked} {new : State} (x : CheckFault) → ReadsValue typed w (Err x) new → Walks w (Err x) new
value_stops_by (Refused kind at) h = record { is = h.is }
value_stops_by OutOfMemory h = record { is = tt }

pub value_stops : {typed : Option Typed} {w : Walked} {new : State} {x : CheckFault} → ReadsValue typed w (Err x) new → Walks w (Err x) new
value_stops {x = x} h = value_stops_by x h

pub walks_as : {w : Walked} {new : State} {x : CheckFault} {r : Result (Unit {0}) CheckFault} → Walks w (Err x) new → r ≡ Err x → Walks w r new
walks_as {w = w} {new = new} h e = subst (λ (q : Result (Unit {0}) CheckFault). Walks w q new) (sym e) h

-- an expression in a state
value_read : (state : State) (x : Expr) {new : Notes} (r : Result Typed CheckFault) → Reads (seen_in state x) state.notes r new
    → ReadsValue (seen_in state x).typed (reads x state) r (record state { notes = new })
unfolding past
value_read state x (Ok t) h = record { is = (h.is.0, h.is.1, ap (λ (n : Notes). let s : State = record state { notes = n } in s) h.is.2) }
value_read state x (Err (Refused kind at)) h = record { is = h.is }
value_read state x (Err OutOfMemory) h = record { is = tt }

pub reads_value : (state : State) (x : Expr) {new : Notes} {r : Result Typed CheckFault} → Reads (seen_in state x) state.notes r new
    → ReadsValue (seen_in state x).typed (reads x state) r (record state { notes = new })
reads_value state x {r = r} h = value_read state x r h

-- ---- declarations

pub declared_ends : (next : Option CType → Walk) {d : Declared} {mid new : State} {kind : CType} {r : Result (Unit {0}) CheckFault}
    → Declares d (Ok kind) mid → Walks (next (Some kind) mid) r new → Walks (and_then d next) r new
unfolding and_then
declared_ends next {d = d} {mid = mid} {new = new} {kind = kind} {r = r} h k =
    let go = λ (bs : List Broken) (x : Option CType) (s : State). let w : Walked = record { state = (next x s).state; broken = bs ++ (next x s).broken } in w in
    subst (λ (bs : List Broken). Walks (go bs d.kind d.state) r new) (sym h.is.0)
    (subst (λ (x : Option CType). Walks (go [] x d.state) r new) (sym h.is.1)
    (subst (λ (s : State). Walks (go [] (Some kind) s) r new) h.is.2 k))

pub declared_by : {d e : Declared} {r : Result CType CheckFault} {new : State} → e ≡ d → Declares e r new → Declares d r new
declared_by {r = r} {new = new} p h = subst (λ (x : Declared). Declares x r new) p h

declared_stops_by : (next : Option CType → Walk) {d : Declared} {mid : State} (x : CheckFault) → Declares d (Err x) mid → Walks (and_then d next) (Err x) mid
unfolding and_then
declared_stops_by next {d = d} (Refused kind at) h = record { is = first_stays (next d.kind d.state).broken h.is }
declared_stops_by next OutOfMemory h = record { is = tt }

pub declared_stops : (next : Option CType → Walk) {d : Declared} {mid : State} {x : CheckFault} {r : Result (Unit {0}) CheckFault}
    → Declares d (Err x) mid → r ≡ Err x → Walks (and_then d next) r mid
declared_stops next {x = x} h e = walks_as (declared_stops_by next x h) e

-- ---- lists

-- an element and those after it
pub next_of : {A : Type 0} (all : List A) (i : ℕ) (x : A) → i < length all → x ≡ slice_index_or all i x → drop i all ≡ x ∷ drop (i + 1) all
next_of {A = A} all i x h e = rw (add-one, drop-cons all i x) (ap (λ (y : A). y ∷ drop (suc i) all) (sym e))

pub none_of : {A : Type 0} (all : List A) (i : ℕ) → length all ≤ i → drop i all ≡ []
none_of all i h = drop_all i all h

-- a walk that breaks no rule is left behind
pub then_go : (a b : Walk) {old mid : State} {t : Unit {0}} → Walks (a old) (Ok t) mid → (a then b) old ≡ b mid
unfolding ◌then◌
then_go a b {old = old} {mid = mid} h =
    let go = λ (s : State) (bs : List Broken). let w : Walked = record { state = (b s).state; broken = bs ++ (b s).broken } in w in
    ap (λ (bs : List Broken). go (a old).state bs) h.is.0 ∙ ap (λ (s : State). b s) (sym h.is.1)

-- elements one after another, of which those from i on are left
pub list_goes : {A : Type 0} {w : Walked} {old mid : State} {t : Unit {0}} (f : A → Walk) (all : List A) (i : ℕ) (x : A)
    → w ≡ walk_all (map f (drop i all)) old → i < length all → x ≡ slice_index_or all i x → Walks (f x old) (Ok t) mid → w ≡ walk_all (map f (drop (i + 1) all)) mid
list_goes {A = A} {old = old} f all i x e h is k = e ∙ ap (λ (l : List A). walk_all (map f l) old) (next_of all i x h is) ∙ then_go (f x) (walk_all (map f (drop (i + 1) all))) k

pub list_stops : {A : Type 0} {w : Walked} {old mid : State} {y : CheckFault} {r : Result (Unit {0}) CheckFault} (f : A → Walk) (all : List A) (i : ℕ) (x : A)
    → w ≡ walk_all (map f (drop i all)) old → i < length all → x ≡ slice_index_or all i x → Walks (f x old) (Err y) mid → r ≡ Err y → Walks w r mid
list_stops {A = A} {old = old} {mid = mid} {r = r} f all i x e h is k q =
    subst (λ (v : Walked). Walks v r mid) (sym (e ∙ ap (λ (l : List A). walk_all (map f l) old) (next_of all i x h is))) (then_stops (f x) (walk_all (map f (drop (i + 1) all))) k q)

pub list_ends : {A : Type 0} {w : Walked} {new : State} (f : A → Walk) (all : List A) (i : ℕ)
    → w ≡ walk_all (map f (drop i all)) new → length all ≤ i → Walks w (Ok tt) new
list_ends {A = A} {new = new} f all i e h =
    let none = e ∙ ap (λ (l : List A). walk_all (map f l) new) (none_of all i h) in
    record { is = (ap (λ (v : Walked). v.broken) none, sym (ap (λ (v : Walked). v.state) none)) }

-- ---- walks in a state of their own

pub inside_ends : (enter : State → State) (a : Walk) (leave : State → State → State) {old mid new : State} {t : Unit {0}}
    → Walks (a (enter old)) (Ok t) mid → new ≡ leave old mid → Walks (inside enter a leave old) (Ok tt) new
unfolding inside
inside_ends enter a leave {old = old} h e = record { is = (h.is.0, e ∙ ap (λ (s : State). leave old s) h.is.1) }

inside_stops_by : (enter : State → State) (a : Walk) (leave : State → State → State) {old mid : State} (x : CheckFault)
    → Walks (a (enter old)) (Err x) mid → Walks (inside enter a leave old) (Err x) mid
unfolding inside
inside_stops_by enter a leave (Refused kind at) h = record { is = h.is }
inside_stops_by enter a leave OutOfMemory h = record { is = tt }

pub inside_stops : (enter : State → State) (a : Walk) (leave : State → State → State) {old mid : State} {x : CheckFault} {r : Result (Unit {0}) CheckFault}
    → Walks (a (enter old)) (Err x) mid → r ≡ Err x → Walks (inside enter a leave old) r mid
inside_stops enter a leave {x = x} h e = walks_as (inside_stops_by enter a leave x h) e
