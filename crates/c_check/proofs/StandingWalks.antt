-- What is known stands, and there is not much of it, behind each walk through a part of a tree.
use Rattle.std.proofs.Common.{◌≡◌, ℕ, zero, suc, ◌+◌, ◌≤◌, refl, sym, ap, ◌∙◌, subst, Bool, true, false, Option, None, Some, List, [], ◌∷◌, length, take, arith}
use Rattle.mx_base.specs.declared.places.Place.{Place}
use Rattle.c_tree.specs.declared.tree.Expr.{Expr}
use Rattle.c_tree.specs.Count as count
use Rattle.c_tree.specs.Stars as star
use Rattle.c_check_rules.specs.declared.names.Local.{Local}
use Rattle.c_check_rules.specs.declared.names.StructInfo.{StructInfo}
use Rattle.c_check_typing.specs.declared.typed.Notes.{Notes}
use Rattle.c_check_typing.specs.declared.fault.CheckKind.{CheckKind}
use Rattle.c_check_typing.specs.Notes.{Seen}
use Rattle.c_check_statements.specs.declared.state.State.{State}
use Rattle.c_check_statements.specs.declared.state.Body.{Body}
use Rattle.c_check_statements.specs.declared.state.BodyVariable.{BodyVariable}
use Rattle.c_check_statements.specs.Walks.{Walk, stay, ◌then◌, at_node, inside, seen_in, past, reads, maybe_reads}
use Rattle.c_check_statements.specs.Statements.{enter_block, leave_block, enter_body, block_by, block, enter_loop, leave_loop, looped}
use Rattle.c_check.specs.Standing.{members_in_all, variables_in_all}
use Rattle.c_check.proofs.Standing.{Each, each_other, StandsBy, ValueBy, stands_more, value_more}
use Rattle.c_check.proofs.StandingScopes.{ScopeBy, scope_more}
use Rattle.c_check.proofs.StandingExpressions.{AfterBy, GoodSeen, expr_good}

pub record NotesBy (most : ℕ) (structs : List StructInfo) (notes : Notes) : Type 0 where
  pub kinds : Each (StandsBy most structs) notes.kinds
  pub declared : Each (StandsBy most structs) notes.declared

abbrev pub VariableBy : (most : ℕ) → List StructInfo → BodyVariable → Type 0
VariableBy most structs v = ValueBy most structs v.kind

abbrev pub BodyBy : (most : ℕ) → List StructInfo → Body → Type 0
BodyBy most structs x = Each (VariableBy most structs) x.variables

-- the types that are known, and those of the function that is being walked through
abbrev pub weight : State → ℕ
weight state = length state.notes.kinds + (length state.notes.declared + (members_in_all state.scope.structs + (length state.scope.variables + (variables_in_all state.bodies + length state.scope.made))))

-- what is known behind m nodes
pub record Good (m : ℕ) (state : State) : Type 0 where
  pub scope : ScopeBy (255 + m) state.scope
  pub notes : NotesBy (255 + m) state.scope.structs state.notes
  pub bodies : Each (BodyBy (255 + m) state.scope.structs) state.bodies
  pub few : weight state ≤ m + m

pub notes_more : (most more : ℕ) (structs : List StructInfo) (notes : Notes) → most ≤ more → NotesBy most structs notes → NotesBy more structs notes
notes_more most more structs notes le h = record {
  kinds = each_other (StandsBy most structs) (StandsBy more structs) (stands_more most more structs le) notes.kinds h.kinds;
  declared = each_other (StandsBy most structs) (StandsBy more structs) (stands_more most more structs le) notes.declared h.declared;
}

pub bodies_more : (most more : ℕ) (structs : List StructInfo) (all : List Body) → most ≤ more → Each (BodyBy most structs) all → Each (BodyBy more structs) all
bodies_more most more structs all le h = each_other (BodyBy most structs) (BodyBy more structs)
    (λ x g. each_other (VariableBy most structs) (VariableBy more structs) (λ v. value_more most more structs le v.kind) x.variables g) all h

pub good_more : (m top : ℕ) (state : State) → m ≤ top → Good m state → Good top state
good_more m top state le h =
    let few = h.few in
    record {
      scope = scope_more (255 + m) (255 + top) state.scope (omega arith) h.scope;
      notes = notes_more (255 + m) (255 + top) state.scope.structs state.notes (omega arith) h.notes;
      bodies = bodies_more (255 + m) (255 + top) state.scope.structs state.bodies (omega arith) h.bodies;
      few = omega (arith, few, le);
    }

-- ---- walks

-- good behind so many nodes, by the same structs
abbrev pub Keeps : (top : ℕ) → (old new : State) → Type 0
Keeps top old new = Good top new × (new.scope.structs ≡ old.scope.structs)

-- through n nodes
abbrev pub Goes : ℕ → Walk → Type 0
Goes n walk = (m top : ℕ) (state : State) → m + n ≤ top → Good m state → Keeps top state (walk state).state

pub goes_more : (n k : ℕ) (walk : Walk) → n ≤ k → Goes n walk → Goes k walk
goes_more n k walk le h m top state at g = h m top state (omega (arith, le, at)) g

pub goes_stay : (n : ℕ) → Goes n stay
goes_stay n m top state at g = (good_more m top state (omega (arith, at)) g, refl)

pub goes_then : (n k : ℕ) (a b : Walk) → Goes n a → Goes k b → Goes (n + k) (a then b)
unfolding ◌then◌
goes_then n k a b h j m top state at g =
    let first = h m (m + n) state (omega arith) g in
    let second = j (m + n) top (a state).state (omega (arith, at)) first.0 in
    (second.0, second.1 ∙ first.1)

pub goes_node : (n : ℕ) (place : Place) (kinds : List CheckKind) → Goes n (at_node place kinds)
unfolding at_node
goes_node n place kinds = goes_stay n

pub goes_inside : (n : ℕ) (enter : State → State) (walk : Walk) (leave : (old new : State) → State)
    → ((m : ℕ) (state : State) → Good m state → Keeps m state (enter state)) → ((m : ℕ) (old new : State) → Keeps m old new → Keeps m old (leave old new)) → Goes n walk → Goes n (inside enter walk leave)
unfolding inside
goes_inside n enter walk leave e l h m top state at g =
    let first = e m state g in
    let second = h m top (enter state) at first.0 in
    l top state (walk (enter state)).state (second.0, second.1 ∙ first.1)

-- ---- expressions

pub goes_after : (n m top : ℕ) (after : Notes → Notes) (state : State) → m + n ≤ top → AfterBy state.scope.structs (255 + m) n after → Good m state → Keeps top state (record state { notes = after state.notes })
goes_after n m top after state at h g =
    let le : m ≤ top = omega (arith, at) in
    let wider = notes_more (255 + m) (255 + top) state.scope.structs state.notes (omega (arith, le)) g.notes in
    let long = h.long state.notes in
    let same : length (after state.notes).declared ≡ length state.notes.declared = ap length (h.declared state.notes) in
    let few = g.few in
    let good : Good top (record state { notes = after state.notes }) = record {
      scope = scope_more (255 + m) (255 + top) state.scope (omega (arith, le)) g.scope;
      notes = record {
        kinds = h.kinds (255 + top) state.notes (omega (arith, at)) wider.kinds;
        declared = subst (Each (StandsBy (255 + top) state.scope.structs)) (sym (h.declared state.notes)) wider.declared;
      };
      bodies = bodies_more (255 + m) (255 + top) state.scope.structs state.bodies (omega (arith, le)) g.bodies;
      few = omega (arith, few, at, long, same);
    } in
    (good, refl)

pub goes_past : (n m top : ℕ) (s : Seen) (state : State) → m + n ≤ top → GoodSeen state.scope.structs (255 + m) n s → Good m state → Keeps top state (past s state).state
unfolding past
goes_past n m top s state at h g = goes_after n m top s.after state at h.after g

pub seen_good : (x : Expr) → star.expr_stars x ≤ 255 → (m : ℕ) (state : State) → Good m state → GoodSeen state.scope.structs (255 + m) (count.expr_nodes x) (seen_in state x)
seen_good x le m state g = (expr_good x).1 state.scope (255 + m) false (omega arith) g.scope (omega (arith, le))

pub goes_reads : (x : Expr) → star.expr_stars x ≤ 255 → Goes (count.expr_nodes x) (reads x)
goes_reads x le m top state at g = goes_past (count.expr_nodes x) m top (seen_in state x) state at (seen_good x le m state g) g

pub goes_maybe_reads : (o : Option Expr) → star.maybe_expr o ≤ 255 → Goes (count.maybe_expr o) (maybe_reads o)
goes_maybe_reads None le = goes_stay 0
goes_maybe_reads (Some x) le = goes_reads x le

-- ---- blocks and loops

pub each_taken : {X : Type 0} (P : X → Type 0) (n : ℕ) (xs : List X) → Each P xs → Each P (take n xs)
each_taken P zero xs h = tt
each_taken P (suc n) [] h = tt
each_taken P (suc n) (x ∷ xs) h = (h.0, each_taken P n xs h.1)

-- other names are seen
pub good_in : (m : ℕ) (state : State) (locals : List Local) (from : ℕ) (in_loop at_body : Bool) → Good m state → Each (λ (x : Local). StandsBy (255 + m) state.scope.structs x.kind) locals
    → Good m (record state { scope = record state.scope { locals = locals; from = from; in_loop = in_loop; at_body = at_body } })
good_in m state locals from in_loop at_body g h = record {
  scope = record { members = g.scope.members; variables = g.scope.variables; functions = g.scope.functions; locals = h; made = g.scope.made };
  notes = record { kinds = g.notes.kinds; declared = g.notes.declared };
  bodies = g.bodies;
  few = g.few;
}

goes_entered : (m : ℕ) (state : State) → Good m state → Keeps m state (enter_block state)
goes_entered m state g = (good_in m state state.scope.locals (length state.scope.locals) state.scope.in_loop state.scope.at_body g g.scope.locals, refl)

goes_left : (m : ℕ) (old new : State) → Keeps m old new → Keeps m old (leave_block old new)
goes_left m old new h = (
  good_in m new (take (length old.scope.locals) new.scope.locals) old.scope.from new.scope.in_loop new.scope.at_body h.0
      (each_taken (λ (x : Local). StandsBy (255 + m) new.scope.structs x.kind) (length old.scope.locals) new.scope.locals h.0.scope.locals),
  h.1,
)

goes_by : (n : ℕ) (all : Walk) (at_body : Bool) → Goes n all → Goes n (block_by at_body all)
goes_by n all true h m top state at g =
    let next = h m top (enter_body state) at (good_in m state state.scope.locals state.scope.from state.scope.in_loop false g g.scope.locals) in
    (next.0, next.1)
goes_by n all false h m top state at g = goes_inside n enter_block all leave_block goes_entered goes_left h m top state at g

pub goes_block : (n : ℕ) (all : Walk) → Goes n all → Goes n (block all)
goes_block n all h m top state at g = goes_by n all state.scope.at_body h m top state at g

loop_entered : (m : ℕ) (state : State) → Good m state → Keeps m state (enter_loop state)
loop_entered m state g = (good_in m state state.scope.locals state.scope.from true state.scope.at_body g g.scope.locals, refl)

loop_left : (m : ℕ) (old new : State) → Keeps m old new → Keeps m old (leave_loop old new)
loop_left m old new h = (good_in m new new.scope.locals new.scope.from old.scope.in_loop new.scope.at_body h.0 h.0.scope.locals, h.1)

pub goes_looped : (n : ℕ) (body : Walk) → Goes n body → Goes n (looped body)
goes_looped n body h = goes_inside n enter_loop body leave_loop loop_entered loop_left h
