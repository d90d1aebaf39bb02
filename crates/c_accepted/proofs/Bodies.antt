-- The elaboration goes through a function without broken rules as the checker does.
use Rattle.std.proofs.Common.{◌≡◌, ℕ, zero, suc, ◌+◌, ◌≤◌, refl, sym, subst, ap, ◌∙◌, Bool, true, false, List, [], ◌∷◌, ◌++◌, map, length, length-append, if◌then◌else◌, arith}
use Rattle.std.specs.Prelude.{Option, None, Some, is_some, slice_get, slice_index_or}
use Rattle.mx_base.specs.declared.places.Place.{Place}
use Rattle.c_tree.specs.declared.tree.Decl.{Decl}
use Rattle.c_tree.specs.declared.tree.Item.{Item}
use Rattle.c_tree.specs.declared.tree.Tree.{Tree}
use Rattle.c_tree.specs.declared.tree.Stmt.{Stmt}
use Rattle.c_types.specs.Types.{CType}
use Rattle.c_check_rules.specs.declared.names.StructInfo.{StructInfo}
use Rattle.c_check_rules.specs.Names.{tags, member_names}
use Rattle.c_check_statements.specs.declared.state.State.{State}
use Rattle.c_check_statements.specs.declared.state.Body.{Body as CheckedBody}
use Rattle.c_check_statements.specs.Functions.{variables_of, parameter, enter_function, leave_function, function_after}
use Rattle.c_check_statements.specs.Statements.{statement, maybe_statement}
use Rattle.c_check_statements.specs.Walks.{◌then◌, walk_all, at_node, inside}
use Rattle.c_check_statements.specs.Sources.{items, at_start}
use Rattle.c_check.specs.Standing.{structs_seen}
use Rattle.bounds_plan.specs.laws.Laws.{OfCopies}
use Rattle.bounds_plan.specs.laws.Roots.{Begins, NamesStatement}
use Rattle.bounds_plan.specs.elaboration.Types.{sort_of}
use Rattle.bounds_plan.specs.elaboration.Source.{Stand, FrameLayout, Meanings, Reached, Signature, Around, past_body, SourceLayout}
use Rattle.bounds_plan.specs.elaboration.Places.{private_values_of}
use Rattle.bounds_plan.specs.elaboration.Expressions.{expression}
use Rattle.bounds_plan.specs.elaboration.Initialisers.{initialiser}
use Rattle.bounds_plan.specs.elaboration.Statements.{statement_by, declarations, maybe}
use Rattle.bounds_plan.specs.elaboration.Functions.{parameters_from, Defined, Gone, no_frame, in_body, next_types, Body, body_by, with_body}
use Rattle.c_accepted.specs.Alike.{meanings_of, IsAt, Front, signatures_seen, TakesWhatItHas, AllTakeWhatTheyHave, IsSmall, AllCopySmall}
use Rattle.c_accepted.specs.Wholes.{known_behind, IsWhole, NamesWholeGlobals, AllNameWholeGlobals}
use Rattle.c_accepted.specs.Frames.{AllPlanned, AllFramed, AreOfBodies}
use Rattle.c_accepted.proofs.Empty.{first_empty, second_empty}
use Rattle.c_accepted.proofs.Gives.{AreSmall}
use Rattle.c_accepted.proofs.Heads.{AllScalar}
use Rattle.c_accepted.proofs.Framing.{params_framed, framed_more, next_types_are, one_of_body}
use Rattle.c_accepted.proofs.Numbering.{statements_same}
use Rattle.c_accepted.proofs.Sizing.{known_on}
use Rattle.c_accepted.proofs.Moving.{Grows, grows_not, Knows}
use Rattle.c_accepted.proofs.Stating.{statements_alike}

-- ---- what is known on both sides

pub record Stands (w : Meanings) (gone : Gone) (state : State) : Type 0 where
  pub at : IsAt gone.after (meanings_of state.notes)
  pub body : gone.after.body ≡ length state.bodies
  pub meanings : gone.around.meanings ≡ w
  pub structs : Knows gone.around state
  pub tags_same : gone.around.tags ≡ tags state.scope.structs
  pub members : gone.around.members ≡ map (λ (s : StructInfo). member_names s.members) state.scope.structs
  pub signatures : gone.around.signatures ≡ signatures_seen state.scope.functions

-- and what is known of the functions that were defined so far
pub record ItemGoes (w : Meanings) (gone next : Gone) (old new : State) : Type 0 where
  pub stands : Stands w next new
  pub few : length new.scope.functions ≤ length old.scope.functions + 1
  pub takes : AllTakeWhatTheyHave gone.around.signatures gone.functions → AllTakeWhatTheyHave next.around.signatures next.functions
  pub copies : AreSmall (structs_seen old.scope.structs) → AllCopySmall gone.functions → AllCopySmall next.functions
  pub layout : next.around.layout ≡ gone.around.layout
  pub of_bodies : (structs : List StructInfo) → Begins new.scope.structs structs → AreOfBodies structs gone.around.layout 0 gone.functions old.bodies → AreOfBodies structs next.around.layout 0 next.functions new.bodies
  pub framed : (all : List CheckedBody) → Begins new.bodies all → AllPlanned all gone.around.layout.frames → AllFramed gone.functions → AllFramed next.functions
  pub wholes : (tree : Tree) (before more : List Item) → tree.items ≡ before ++ more → old ≡ (items before at_start).state → length old.scope.variables ≤ 4294967295 → AllNameWholeGlobals tree gone.around.layout gone.functions → AllNameWholeGlobals tree next.around.layout next.functions

-- ---- functions that are defined

pub takes_more : (ss : List Signature) (fs : List Defined) (d : Defined) → AllTakeWhatTheyHave ss fs → TakesWhatItHas ss d → AllTakeWhatTheyHave ss (fs ++ (d ∷ []))
takes_more ss [] d h k = (k, tt)
takes_more ss (f ∷ fs) d h k = (h.0, takes_more ss fs d h.1 k)

pub copies_more : (fs : List Defined) (d : Defined) → AllCopySmall fs → OfCopies IsSmall d.function.body → AllCopySmall (fs ++ (d ∷ []))
copies_more [] d h k = (k, tt)
copies_more (f ∷ fs) d h k = (h.0, copies_more fs d h.1 k)

pub wholes_more : (tree : Tree) (layout : SourceLayout) (fs : List Defined) (d : Defined) → AllNameWholeGlobals tree layout fs → NamesWholeGlobals tree layout d → AllNameWholeGlobals tree layout (fs ++ (d ∷ []))
wholes_more tree layout [] d h k = (k, tt)
wholes_more tree layout (f ∷ fs) d h k = (h.0, wholes_more tree layout fs d h.1 k)

pub as_many_parameters : (ts : List CType) (x : ℕ) (ss : List Stand) → length (parameters_from x ts ss) ≡ length ts
as_many_parameters [] x ss = refl
as_many_parameters (t ∷ ts) x [] = ap suc (as_many_parameters ts x [])
as_many_parameters (t ∷ ts) x (s ∷ ss) = ap suc (as_many_parameters ts (x + length (private_values_of (sort_of t) s)) ss)

pub got_stays : (xs ys : List Signature) (n : ℕ) (s : Signature) → slice_get xs n ≡ Some s → slice_get (xs ++ ys) n ≡ Some s
got_stays [] ys n s h = cc
got_stays (x ∷ xs) ys zero s h = h
got_stays (x ∷ xs) ys (suc n) s h = got_stays xs ys n s h

pub takes_stay : (ss more : List Signature) (fs : List Defined) → AllTakeWhatTheyHave ss fs → AllTakeWhatTheyHave (ss ++ more) fs
takes_stay ss more [] h = tt
takes_stay ss more (d ∷ fs) h = (record { signature = h.0.signature; known = got_stays ss more d.number h.0.signature h.0.known; takes = h.0.takes }, takes_stay ss more fs h.1)

-- ---- a body

abbrev pub bodies : Stmt → Body
bodies = body_by (statement_by expression (initialiser expression)) declarations

-- the frame of the next body
abbrev pub next_frame : Gone → FrameLayout
next_frame gone = slice_index_or gone.around.layout.frames gone.after.body no_frame

-- the functions with a body so far, and this one
abbrev pub noted_bodies : Option Stmt → (number : ℕ) → State → List CheckedBody
noted_bodies None number state = state.bodies
noted_bodies (Some x) number state = state.bodies ++ (record { number = number; variables = variables_of state } ∷ [])

pub record BodyGoes (o : Option Stmt) (number : ℕ) (s : Signature) (gone next : Gone) (old new : State) : Type 0 where
  pub of_body : (structs known : List StructInfo) (before : List CheckedBody) → Begins known structs → gone.around.structs ≡ structs_seen known → old.scope.made ≡ s.parameters → gone.after.body ≡ length before → new.bodies ≡ before
      → AreOfBodies structs gone.around.layout 0 gone.functions before → AreOfBodies structs gone.around.layout 0 next.functions (noted_bodies o number new)
  pub at : IsAt next.after (meanings_of new.notes)
  pub body : gone.after.body ≡ length new.bodies → next.after.body ≡ length (noted_bodies o number new)
  pub framed : AllScalar s.parameters → (is_some o ≡ true → length s.parameters ≤ length (next_frame gone).stands) → AllFramed gone.functions → AllFramed next.functions
  pub around : next.around ≡ gone.around
  pub takes : slice_get gone.around.signatures number ≡ Some s → AllTakeWhatTheyHave gone.around.signatures gone.functions → AllTakeWhatTheyHave gone.around.signatures next.functions
  pub copies : AreSmall gone.around.structs → AllCopySmall gone.functions → AllCopySmall next.functions
  pub wholes : (tree : Tree) (before more : List Item) → tree.items ≡ before ++ more → gone.around.structs ≡ structs_seen (known_behind before).structs → old.scope.variables ≡ (known_behind before).variables → length (known_behind before).variables ≤ 4294967295
      → AllNameWholeGlobals tree gone.around.layout gone.functions → AllNameWholeGlobals tree gone.around.layout next.functions

pub past_it : (r : Reached) (m : Meanings) → IsAt r m → IsAt (past_body r) m
past_it r m h = record { kind = h.kind; name = h.name; declaration = h.declaration }

pub body_goes : (o : Option Stmt) (number : ℕ) (s : Signature) (gone : Gone) (state : State) → Knows gone.around state → IsAt gone.after (meanings_of state.notes) → (maybe_statement o state).broken ≡ [] → Front (meanings_of (maybe_statement o state).state.notes) gone.around.meanings
    → BodyGoes o number s gone (with_body (maybe bodies o) number s gone) state (maybe_statement o state).state
body_goes None number s gone state knows at h w = record { of_body = λ structs known before begins same made n kept all. subst (AreOfBodies structs gone.around.layout 0 gone.functions) (sym kept) all; at = at; body = λ e. e; framed = λ scalar room all. all; around = refl; takes = λ known all. all; copies = λ small all. all; wholes = λ tree before more is same variables few all. all }
body_goes (Some stmt) number s gone state knows at h w =
    let frame = slice_index_or gone.around.layout.frames gone.after.body no_frame in let variables = s.parameters ++ next_types gone.around gone.after (declarations stmt) in
    let around = in_body variables frame.stands s.result gone.around in let x = statements_alike stmt state around knows h in record {
      of_body = λ structs known before begins same made n kept all. one_of_body structs known gone.around.layout gone.functions before (statement stmt state).state.bodies gone.around.structs number gone.after.body s.parameters (next_types gone.around gone.after (declarations stmt)) x.moves.grows.types
          (statement stmt state).state.scope.made (statement stmt state).state.notes.taken _ begins same (next_types_are gone.around gone.after state.notes.declared x.moves.grows.types _ (declarations stmt) w.declared x.moves.grows.declared at.declaration x.moves.grows.many)
          (x.moves.grows.made ∙ ap (λ l. l ++ x.moves.grows.types) made) n kept all;
      at = past_it _ _ (x.moves.at gone.after w at);
      body = λ e. omega (arith, statements_same stmt around gone.after, e, length-append (statement stmt state).state.bodies (record { number = number; variables = variables_of (statement stmt state).state } ∷ []));
      framed = λ scalar room all. framed_more gone.functions _ all (params_framed gone.around.structs s.parameters (next_types gone.around gone.after (declarations stmt)) frame.stands 0 scalar (room refl));
      around = refl;
      takes = λ known all. takes_more gone.around.signatures gone.functions _ all record { signature = s; known = known; takes = as_many_parameters s.parameters 0 frame.stands };
      copies = λ small all. copies_more gone.functions _ all (x.copies small gone.after w at);
      wholes = λ tree before more is same variables few all. wholes_more tree gone.around.layout gone.functions _ all record {
        before = before;
        others = more;
        is = is;
        body = subst (λ ss. NamesStatement (IsWhole (known_behind before).variables ss gone.around.layout) (λ offset size. Unit {0}) (λ x. Unit {0}) (statement_by expression (initialiser expression) stmt around gone.after).statement) same
            (x.names (known_behind before).variables (known_on (known_behind before).variables _ _ variables record { few = few; stay = λ n type there. there }) gone.after w at);
      };
    }

-- ---- a function is known

pub record SameBut (old new : Around) : Type 0 where
  pub structs : new.structs ≡ old.structs
  pub tags_same : new.tags ≡ old.tags
  pub members : new.members ≡ old.members
  pub meanings : new.meanings ≡ old.meanings
  pub layout : new.layout ≡ old.layout

pub same_but : (known : Bool) (s : Signature) (around : Around) → SameBut around (if known then around else record around { signatures = around.signatures ++ (s ∷ []) })
same_but true s around = record { structs = refl; tags_same = refl; members = refl; meanings = refl; layout = refl }
same_but false s around = record { structs = refl; tags_same = refl; members = refl; meanings = refl; layout = refl }

pub known_signatures : (known : Bool) (s : Signature) (around : Around) → (if known then around else record around { signatures = around.signatures ++ (s ∷ []) }).signatures ≡ (if known then around.signatures else around.signatures ++ (s ∷ []))
known_signatures true s around = refl
known_signatures false s around = refl

pub takes_known : (known : Bool) (s : Signature) (around : Around) (fs : List Defined) → AllTakeWhatTheyHave around.signatures fs → AllTakeWhatTheyHave (if known then around else record around { signatures = around.signatures ++ (s ∷ []) }).signatures fs
takes_known true s around fs h = h
takes_known false s around fs h = takes_stay around.signatures (s ∷ []) fs h

-- ---- the whole function

pub record Way (number : ℕ) (params : List Decl) (body : Option Stmt) (start new : State) : Type 0 where
  pub through_params : (walk_all (map parameter params) start).broken ≡ []
  pub through_body : (maybe_statement body (walk_all (map parameter params) start).state).broken ≡ []
  pub notes : meanings_of new.notes ≡ meanings_of (maybe_statement body (walk_all (map parameter params) start).state).state.notes
  pub structs : new.scope.structs ≡ (maybe_statement body (walk_all (map parameter params) start).state).state.scope.structs
  pub functions : new.scope.functions ≡ (maybe_statement body (walk_all (map parameter params) start).state).state.scope.functions
  pub variables : new.scope.variables ≡ (maybe_statement body (walk_all (map parameter params) start).state).state.scope.variables
  pub bodies : new.bodies ≡ noted_bodies body number (maybe_statement body (walk_all (map parameter params) start).state).state

pub left : (number : ℕ) (body : Option Stmt) (old new : State) → (meanings_of (leave_function number body old new).notes ≡ meanings_of new.notes) × ((leave_function number body old new).scope.structs ≡ new.scope.structs) × ((leave_function number body old new).scope.functions ≡ new.scope.functions) × ((leave_function number body old new).bodies ≡ noted_bodies body number new) × ((leave_function number body old new).scope.variables ≡ new.scope.variables)
left number None old new = (refl, refl, refl, refl, refl)
left number (Some x) old new = (refl, refl, refl, refl, refl)

pub way : (number : ℕ) (d : Decl) (params : List Decl) (body : Option Stmt) (place : Place) (kind : CType) (state : State) → (function_after number d params body place (Some kind) state).broken ≡ [] → Way number params body (enter_function (Some kind) state) (function_after number d params body place (Some kind) state).state
unfolding inside ◌then◌ at_node
way number d params body place kind state h = let start = enter_function (Some kind) state in let one = walk_all (map parameter params) start in let two = maybe_statement body one.state in
    let l = left number body state two.state in record {
      through_params = first_empty one.broken _ h;
      through_body = first_empty two.broken _ (second_empty one.broken _ h);
      notes = l.0;
      structs = l.1;
      functions = l.2;
      variables = l.4;
      bodies = l.3;
    }

-- what a body leaves
pub record Grown (old new : State) : Type 0 where
  pub count : ℕ
  pub grows : Grows old new count

pub grows_maybe : (o : Option Stmt) (state : State) (around : Around) → Knows around state → (maybe_statement o state).broken ≡ [] → Grown state (maybe_statement o state).state
grows_maybe None state around knows h = record { count = 0; grows = grows_not state }
grows_maybe (Some x) state around knows h = record { count = declarations x; grows = (statements_alike x state around knows h).moves.grows }
