-- From the walks through the parts of an initialiser, the walk through it.
use Rattle.std.proofs.Common.{ℕ, ◌+◌, ◌<◌, ◌≡◌, refl, sym, ◌∙◌, ap, subst, Bool, true, false, List, ◌∷◌, length, map, drop, slice_index_or}
use Rattle.std.specs.Prelude.{Option, Some, Result, Ok, Err}
use Rattle.c_tree.specs.declared.tree.Expr.{Expr}
use Rattle.c_tree.specs.declared.tree.Init.{Init}
use Rattle.c_types.specs.Types.{CType}
use Rattle.c_check_typing.specs.declared.typed.Typed.{Typed}
use Rattle.c_check_typing.specs.declared.typed.Notes.{Notes}
use Rattle.c_check_typing.specs.declared.fault.CheckFault.{CheckFault}
use Rattle.c_check_typing.specs.declared.fault.CheckFault.TheVariants.{Refused, OutOfMemory}
use Rattle.c_check_typing.specs.Notes.{Seen, first_evaluated, unevaluated, Reads}
use Rattle.c_check_statements.specs.declared.initialisers.Filled.{Filled}
use Rattle.c_check_statements.specs.declared.state.State.{State}
use Rattle.c_check_statements.specs.Initialisers.{filling, fills_target, fills_known, filling_walk, kept_texts, notes_word, fills, part, part_of, part_walk, parts}
use Rattle.c_check_statements.specs.Walks.{Walked, past, seen_in, Walks, ReadsValue}
use Rattle.c_check_statements.proofs.Steps.{next_of, then_go, then_stops}

-- ---- one expression

filled_by : (state : State) (s : Seen) (b : Bool) {new : Notes} {t : Typed} → Reads s state.notes (Ok t) new
    → ReadsValue (Some t) (past (filling b s) state) (Ok t) (record state { notes = kept_texts b (length state.notes.literals) (length state.notes.used) new })
unfolding past unevaluated
filled_by state s true h = record { is = (h.is.0, refl, ap (λ (n : Notes). let m : State = record state { notes = first_evaluated (length state.notes.literals) (length state.notes.used) n } in m) h.is.2) }
filled_by state s false h = record { is = (h.is.0, refl, ap (λ (n : Notes). let m : State = record state { notes = n } in m) h.is.2) }

pub filling_ends : (state : State) (x : Expr) (target : Option CType) (b : Bool) {count uses : ℕ} {new last : Notes} {t : Typed} → Reads (seen_in state x) state.notes (Ok t) new → b ≡ fills_known target t.text
    → count ≡ length state.notes.literals → uses ≡ length state.notes.used → last ≡ kept_texts b count uses new → ReadsValue (seen_in state x).typed (filling_walk target x state) (Ok t) (record state { notes = last })
filling_ends state x target b {uses = uses} {new = new} {last = last} {t = t} h e n u k =
    subst (λ (n : Notes). ReadsValue (seen_in state x).typed (filling_walk target x state) (Ok t) (record state { notes = n })) (sym (k ∙ (ap (λ (i : ℕ). kept_texts b i uses new) n ∙ ap (λ (i : ℕ). kept_texts b (length state.notes.literals) i new) u)))
    (subst (λ (y : Option Typed). ReadsValue y (past (filling (fills_target target y) (seen_in state x)) state) (Ok t) (record state { notes = kept_texts b (length state.notes.literals) (length state.notes.used) new })) (sym h.is.1)
    (subst (λ (c : Bool). ReadsValue (Some t) (past (filling c (seen_in state x)) state) (Ok t) (record state { notes = kept_texts b (length state.notes.literals) (length state.notes.used) new })) e (filled_by state (seen_in state x) b h)))

stops_by : (state : State) (s : Seen) (b : Bool) (y : Option Typed) {old new : Notes} {last : State} (f : CheckFault) → Reads s old (Err f) new → ReadsValue y (past (filling b s) state) (Err f) last
unfolding past unevaluated
stops_by state s true y (Refused kind at) h = record { is = h.is }
stops_by state s false y (Refused kind at) h = record { is = h.is }
stops_by state s b y OutOfMemory h = record { is = tt }

pub filling_stops : (state : State) (x : Expr) (target : Option CType) {old new : Notes} {last : State} {f : CheckFault} {r : Result Typed CheckFault} → Reads (seen_in state x) old (Err f) new → r ≡ Err f
    → ReadsValue (seen_in state x).typed (filling_walk target x state) r last
filling_stops state x target {last = last} {f = f} h e = subst (λ (q : Result Typed CheckFault). ReadsValue (seen_in state x).typed (filling_walk target x state) q last) (sym e)
    (stops_by state (seen_in state x) (fills_target target (seen_in state x).typed) (seen_in state x).typed f h)

-- a word that is known of a value that was read before
pub word_noted : (word : Option Typed → Option ℕ) {typed : Option Typed} {t : Typed} {given : Option ℕ} (old : State) {new : State} {r : Result (Unit {0}) CheckFault}
    → typed ≡ Some t → given ≡ word (Some t) → Walks (notes_word given old) r new → Walks (notes_word (word typed) old) r new
word_noted word old {new = new} {r = r} e g h = subst (λ (w : Option ℕ). Walks (notes_word w old) r new) (g ∙ ap word (sym e)) h

-- ---- parts

-- the next part, as it is read
part_as : (filled : Filled) (target : Option CType) (i : ℕ) (x : Init) (f : Filled) (k : Option CType) (old : State) {mid : State} {r : Result (Unit {0}) CheckFault}
    → f ≡ part filled → k ≡ part_of old.scope.structs target i → Walks (fills x f k old) r mid → Walks (part_walk filled target i (fills x) old) r mid
part_as filled target i x f k old {mid = mid} {r = r} p q h =
    subst (λ (j : Option CType). Walks (fills x (part filled) j old) r mid) q (subst (λ (g : Filled). Walks (fills x g k old) r mid) p h)

parts_next : (filled : Filled) (target : Option CType) (all : List Init) (i : ℕ) (x : Init) (old : State) {w : Walked}
    → w ≡ parts filled target i (map fills (drop i all)) old → i < length all → x ≡ slice_index_or all i x → w ≡ parts filled target i (map fills (x ∷ drop (i + 1) all)) old
parts_next filled target all i x old e h is = e ∙ ap (λ (l : List Init). parts filled target i (map fills l) old) (next_of all i x h is)

pub parts_go : (filled : Filled) (target : Option CType) (all : List Init) (i : ℕ) (x : Init) (f : Filled) (k : Option CType) (old : State) {w : Walked} {mid : State} {t : Unit {0}}
    → w ≡ parts filled target i (map fills (drop i all)) old → i < length all → x ≡ slice_index_or all i x → f ≡ part filled → k ≡ part_of old.scope.structs target i
    → Walks (fills x f k old) (Ok t) mid → w ≡ parts filled target (i + 1) (map fills (drop (i + 1) all)) mid
parts_go filled target all i x f k old e h is p q g = parts_next filled target all i x old e h is
    ∙ then_go (part_walk filled target i (fills x)) (parts filled target (i + 1) (map fills (drop (i + 1) all))) (part_as filled target i x f k old p q g)

pub parts_stop : (filled : Filled) (target : Option CType) (all : List Init) (i : ℕ) (x : Init) (f : Filled) (k : Option CType) (old : State) {w : Walked} {mid : State} {y : CheckFault} {r : Result (Unit {0}) CheckFault}
    → w ≡ parts filled target i (map fills (drop i all)) old → i < length all → x ≡ slice_index_or all i x → f ≡ part filled → k ≡ part_of old.scope.structs target i
    → Walks (fills x f k old) (Err y) mid → r ≡ Err y → Walks w r mid
parts_stop filled target all i x f k old {mid = mid} {r = r} e h is p q g o = subst (λ (v : Walked). Walks v r mid) (sym (parts_next filled target all i x old e h is))
    (then_stops (part_walk filled target i (fills x)) (parts filled target (i + 1) (map fills (drop (i + 1) all))) (part_as filled target i x f k old p q g) o)
