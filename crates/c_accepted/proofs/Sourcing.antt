-- The elaboration goes through a source without broken rules as the checker does, item by item.
use Rattle.std.proofs.Common.{◌≡◌, ℕ, suc, ◌+◌, ◌<◌, refl, sym, ap, ◌∙◌, subst, Bool, false, List, [], ◌∷◌, ◌++◌, map, length, append_assoc, ◌≤◌, arith}
use Rattle.std.specs.Prelude.{Option, None, Some, is_some}
use Rattle.mx_base.specs.declared.places.Place.{Place}
use Rattle.c_tree.specs.declared.tree.Item.{Item}
use Rattle.c_tree.specs.declared.tree.Tree.{Tree}
use Rattle.c_tree.specs.declared.tree.ItemKind.{ItemKind}
use Rattle.c_tree.specs.declared.tree.ItemKind.TheVariants as k
use Rattle.c_tree.specs.declared.tree.Decl.{Decl}
use Rattle.c_tree.specs.declared.tree.Init.{Init}
use Rattle.c_tree.specs.declared.tree.Stmt.{Stmt}
use Rattle.c_types.specs.Types.{CType}
use Rattle.c_check_rules.specs.declared.names.StructInfo.{StructInfo}
use Rattle.c_check_rules.specs.declared.predeclared.Bind.TheVariants as b
use Rattle.c_check_rules.specs.Names.{tags, member_names, variable_at}
use Rattle.c_check_statements.specs.declared.decls.Use.TheVariants as u
use Rattle.c_check_statements.specs.declared.initialisers.Filled.TheVariants as f
use Rattle.c_check_statements.specs.declared.state.State.{State}
use Rattle.c_check_statements.specs.declared.state.Body.{Body as CheckedBody}
use Rattle.c_check_statements.specs.Declarations.{global_twice, is_main, with_variable, number_in, global_declared, after_counts, function_twice, with_function as checked_function, function_number as number_of, function_declared}
use Rattle.c_check_statements.specs.Functions.{variables_of, parameter, enter_function, function_after, function_walk}
use Rattle.c_check_statements.specs.Initialisers.{maybe_fills}
use Rattle.c_check_statements.specs.Sources.{is_definition, global_walk, item_kind, item, items, at_start}
use Rattle.c_check_statements.specs.Statements.{maybe_statement}
use Rattle.c_check_statements.specs.Structs.{struct_walk}
use Rattle.c_check_statements.specs.Walks.{◌then◌, walk_all}
use Rattle.c_check.specs.Standing.{structs_seen}
use Rattle.bounds_plan.specs.meaning.Core.{Null}
use Rattle.bounds_plan.specs.laws.Roots.{Begins}
use Rattle.bounds_plan.specs.elaboration.Source.{SourceLayout, Meanings, Reached, Around, declared_at, past_declaration, past_member}
use Rattle.bounds_plan.specs.elaboration.Places.{InMemory}
use Rattle.bounds_plan.specs.elaboration.Expressions.{expression}
use Rattle.bounds_plan.specs.elaboration.Initialisers.{initialiser}
use Rattle.bounds_plan.specs.elaboration.Statements.{past_counts, maybe}
use Rattle.bounds_plan.specs.elaboration.Functions.{Gone, declared_all, past_initialiser, after_item, after_items}
use Rattle.c_accepted.specs.Alike.{meanings_of, IsAt, Front, signatures_seen, AllTakeWhatTheyHave, AllCopySmall}
use Rattle.c_accepted.specs.Frames.{AllPlanned, AllFramed, AreOfBodies}
use Rattle.c_accepted.specs.Wholes.{AllNameWholeGlobals}
use Rattle.c_accepted.proofs.Variables.{stay_many, items_stay}
use Rattle.c_accepted.proofs.Empty.{first_empty, second_empty}
use Rattle.c_accepted.proofs.Going.{front_itself, front_then, begins_itself, begins_then}
use Rattle.c_accepted.proofs.Gives.{AreSmall}
use Rattle.c_accepted.proofs.Declaring.{declares_well, declared_more, front_declared, at_declared, type_stands}
use Rattle.c_accepted.proofs.Filling.{initialisers_alike}
use Rattle.c_accepted.proofs.Heads.{NoCounts, params_well}
use Rattle.c_check.proofs.KeptBodies.{kept_maybe_fills, kept_maybe_statement, kept_struct}
use Rattle.c_accepted.proofs.Small.{kept_params}
use Rattle.c_accepted.proofs.Numbering.{past_same, declared_same, initialisers_same}
use Rattle.c_accepted.proofs.Moving.{Knows, Moves, moves_not}
use Rattle.c_accepted.proofs.Stating.{after_declared, none_after, none_in}
use Rattle.c_accepted.proofs.Structures.{struct_well, names_of}
use Rattle.c_accepted.proofs.Bodies.{Stands, ItemGoes, bodies, noted_bodies, way, grows_maybe}
use Rattle.c_accepted.proofs.Wholes.{function_goes}

-- ---- what the checker knows grows

pub record GoesOn (old new : State) : Type 0 where
  pub notes : Front (meanings_of old.notes) (meanings_of new.notes)
  pub structs : Begins old.scope.structs new.scope.structs
  pub bodies : Begins old.bodies new.bodies

pub as_before : {X : Type 0} (xs ys : List X) → ys ≡ xs → Begins xs ys
as_before xs ys e = subst (λ l. Begins xs l) (sym e) (begins_itself xs)

pub noted_begin : (body : Option Stmt) (number : ℕ) (two : State) (before now : List CheckedBody) → now ≡ noted_bodies body number two → two.bodies ≡ before → Begins before now
noted_begin None number two before now noted kept = as_before before now (noted ∙ kept)
noted_begin (Some x) number two before now noted kept = record { more = record { number = number; variables = variables_of two } ∷ []; is = noted ∙ ap (λ l. l ++ (record { number = number; variables = variables_of two } ∷ [])) kept }

pub fills_move : (init : Option Init) (around : Around) (kind : CType) (state : State) → Knows around state → (maybe_fills init f.Global (Some kind) state).broken ≡ []
    → Moves around state (maybe_fills init f.Global (Some kind) state).state 0 (λ r. past_initialiser (maybe (initialiser expression) init) around kind r)
fills_move None around kind state knows h = moves_not around state
fills_move (Some x) around kind state knows h = (initialisers_alike x).moves f.Global kind state around knows (InMemory Null) 0 h

-- with these structs around it
abbrev pub knowing : Around → State → Around
knowing around state = record around { structs = structs_seen state.scope.structs }

pub global_on : (external : Bool) (d : Decl) (init : Option Init) (around : Around) (state : State) → (global_walk external d init state).broken ≡ [] → GoesOn state (global_walk external d init state).state
global_on external d init around state h =
    let defined = is_definition external init in let declared = global_declared defined d state in let behind = maybe_fills init f.Global in
    let known = declares_well u.Variable (global_twice d.name) (is_main d.name) (with_variable d.name defined) d state (none_in declared behind h) in
    let mid = with_variable d.name defined known.kind (after_counts state d) in let m = meanings_of (after_counts state d).notes in
    let g = (fills_move init (knowing around mid) known.kind mid refl (none_after declared behind known.kind mid known.is known.next h)).grows in
    subst (λ new. GoesOn state new) (sym (after_declared declared behind known.kind mid known.is known.next)) record {
      notes = front_then _ _ _ (front_then _ m _ (known.goes.on state.notes) (front_declared _ known.kind m)) g.on;
      structs = as_before state.scope.structs _ g.structs;
      bodies = as_before state.bodies _ (kept_maybe_fills init f.Global (Some known.kind) mid);
    }

pub function_on : (d : Decl) (params : List Decl) (body : Option Stmt) (place : Place) (around : Around) (state : State) → (function_walk d params body place state).broken ≡ [] → GoesOn state (function_walk d params body place state).state
function_on d params body place around state h =
    let declared = function_declared (is_some body) params d state in let number = number_of d.name state.scope in let behind = function_after number d params body place in
    let known = declares_well u.Result (function_twice d.name params) false (checked_function d.name params (is_some body)) d state (none_in declared behind h) in
    let mid = checked_function d.name params (is_some body) known.kind (after_counts state d) in let m = meanings_of (after_counts state d).notes in
    let by = way number d params body place known.kind mid (none_after declared behind known.kind mid known.is known.next h) in
    let start = enter_function (Some known.kind) mid in let one = (walk_all (map parameter params) start).state in
    let p = (params_well params start (knowing around start) refl by.through_params).moves.grows in
    let more = grows_maybe body one (knowing around one) refl by.through_body in
    subst (λ new. GoesOn state new) (sym (after_declared declared behind known.kind mid known.is known.next)) record {
      notes = subst (Front (meanings_of state.notes)) (sym by.notes) (front_then _ (meanings_of one.notes) _ (front_then _ (meanings_of start.notes) _ (front_then _ m _ (known.goes.on state.notes) (front_declared _ known.kind m)) p.on) more.grows.on);
      structs = as_before state.scope.structs _ (by.structs ∙ (more.grows.structs ∙ p.structs));
      bodies = noted_begin body number (maybe_statement body one).state state.bodies _ by.bodies (kept_maybe_statement body one ∙ kept_params params start);
    }

pub item_on : (x : ItemKind) (place : Place) (around : Around) (state : State) → (item_kind x place state).broken ≡ [] → GoesOn state (item_kind x place state).state
item_on (k.Struct tag members) place around state h = let s = struct_well tag members place state h in record { notes = s.on; structs = s.begins; bodies = as_before state.bodies _ (kept_struct tag members place state) }
item_on (k.Var external d init) place around state h = global_on external d init around state h
item_on (k.Fun d params body) place around state h = function_on d params body place around state h

pub items_on : (all : List Item) (around : Around) (state : State) → (items all state).broken ≡ [] → GoesOn state (items all state).state
unfolding ◌then◌
items_on [] around state h = record { notes = front_itself (meanings_of state.notes); structs = begins_itself state.scope.structs; bodies = begins_itself state.bodies }
items_on (x ∷ more) around state h = let one = item_on x.kind x.place around state (first_empty (item x state).broken _ h) in
    let rest = items_on more around (item x state).state (second_empty (item x state).broken _ h) in
    record { notes = front_then _ _ _ one.notes rest.notes; structs = begins_then _ _ _ one.structs rest.structs; bodies = begins_then _ _ _ one.bodies rest.bodies }

-- ---- structs and global variables

pub as_many : {X Y : Type 0} (f : X → Y) (xs : List X) → length (map f xs) ≡ length xs
as_many f [] = refl
as_many f (x ∷ xs) = ap suc (as_many f xs)

pub struct_goes : (tag : List ℕ) (all : List Decl) (place : Place) (w : Meanings) (gone : Gone) (state : State) → Stands w gone state → (struct_walk tag all place state).broken ≡ [] → Front (meanings_of (struct_walk tag all place state).state.notes) w
    → ItemGoes w gone (after_item expression (initialiser expression) bodies gone (k.Struct tag all)) state (struct_walk tag all place state).state
struct_goes tag all place w gone state st h f =
    let s = struct_well tag all place state h in let wf = subst (Front _) (sym st.meanings) f in let ms = declared_all expression past_member all gone.around gone.after in
    let types : ms.types ≡ s.types = s.found gone.around gone.after wf st.at in
    let many : length gone.around.tags ≡ length state.scope.structs = ap length st.tags_same ∙ as_many (λ (x : StructInfo). x.tag) state.scope.structs in record {
      stands = record {
        at = s.at gone.around gone.after wf st.at;
        body = declared_same past_member (λ r. refl) all gone.around gone.after ∙ (st.body ∙ ap length (sym (kept_struct tag all place state)));
        meanings = st.meanings;
        structs = (λ i. record { number = many i; members = types i } ∷ st.structs i) ∙ sym s.structs;
        tags_same = ap (λ ts. ts ++ (tag ∷ [])) st.tags_same ∙ sym s.tags_more;
        members = ap (λ ns. ns ++ (names_of all ∷ [])) st.members ∙ sym s.members_more;
        signatures = st.signatures ∙ ap signatures_seen (sym s.functions);
      };
      few = omega (arith, ap length s.functions);
      takes = λ all. all;
      copies = λ small all. all;
      layout = refl;
      wholes = λ tree before more is from few all. all;
      of_bodies = λ final begins all_of. subst (λ bs. AreOfBodies final gone.around.layout 0 gone.functions bs) (sym (kept_struct tag all place state)) all_of;
      framed = λ all begins planned framed. framed;
    }

pub filled_same : (init : Option Init) (around : Around) (type : CType) (r : Reached) → (past_initialiser (maybe (initialiser expression) init) around type r).body ≡ r.body
filled_same None around type r = refl
filled_same (Some x) around type r = initialisers_same x around type (InMemory Null) 0 r

pub global_goes : (external : Bool) (d : Decl) (init : Option Init) (w : Meanings) (gone : Gone) (state : State) → Stands w gone state → (global_walk external d init state).broken ≡ [] → Front (meanings_of (global_walk external d init state).state.notes) w
    → ItemGoes w gone (after_item expression (initialiser expression) bodies gone (k.Var external d init)) state (global_walk external d init state).state
global_goes external d init w gone state st h front =
    let defined = is_definition external init in let declared = global_declared defined d state in let behind = maybe_fills init f.Global in
    let known = declares_well u.Variable (global_twice d.name) (is_main d.name) (with_variable d.name defined) d state (none_in declared behind h) in
    let kind = known.kind in let bind = b.Global (number_in (length state.scope.variables) (variable_at state.scope d.name)) in
    let mid = with_variable d.name defined kind (after_counts state d) in let m = meanings_of (after_counts state d).notes in
    let same = after_declared declared behind kind mid known.is known.next in let new = (behind (Some kind) mid).state in
    let go = fills_move init gone.around kind mid st.structs (none_after declared behind kind mid known.is known.next h) in
    let wf = subst (λ n. Front (meanings_of n.notes) gone.around.meanings) same (subst (Front _) (sym st.meanings) front) in
    let w1 = front_then (meanings_of mid.notes) _ _ go.grows.on wf in
    let here = past_counts expression d gone.around gone.after in
    let at0 = known.goes.at state.notes gone.around gone.after (front_then m (declared_more bind kind m) gone.around.meanings (front_declared bind kind m) w1) st.at in
    let at1 = at_declared bind kind m here at0 in let type = type_stands bind kind m gone.around here w1 at0 in
    subst (λ n. ItemGoes w gone (after_item expression (initialiser expression) bodies gone (k.Var external d init)) state n) (sym same) record {
      stands = record {
        at = subst (λ t. IsAt (past_initialiser (maybe (initialiser expression) init) gone.around t (past_declaration here)) (meanings_of new.notes)) (sym type) (go.at (past_declaration here) wf at1);
        body = filled_same init gone.around (declared_at gone.around here) (past_declaration here) ∙ (past_same d gone.around gone.after ∙ (st.body ∙ ap length (sym (kept_maybe_fills init f.Global (Some kind) mid))));
        meanings = st.meanings;
        structs = st.structs ∙ ap structs_seen (sym go.grows.structs);
        tags_same = st.tags_same ∙ ap tags (sym go.grows.structs);
        members = st.members ∙ ap (map (λ (x : StructInfo). member_names x.members)) (sym go.grows.structs);
        signatures = st.signatures ∙ ap signatures_seen (sym go.grows.functions);
      };
      few = omega (arith, ap length go.grows.functions);
      takes = λ all. all;
      copies = λ small all. all;
      layout = refl;
      wholes = λ tree before more is from few all. all;
      of_bodies = λ final begins all_of. subst (λ bs. AreOfBodies final gone.around.layout 0 gone.functions bs) (sym (kept_maybe_fills init f.Global (Some kind) mid)) all_of;
      framed = λ all begins planned framed. framed;
    }

-- ---- items

-- the names of functions and their parameters have no counts
abbrev pub Plain : ItemKind → Type 0
Plain (k.Struct tag members) = Unit {0}
Plain (k.Var external d init) = Unit {0}
Plain (k.Fun d params body) = (d.counts ≡ []) × NoCounts params

abbrev pub AllPlain : List Item → Type 0
AllPlain [] = Unit {0}
AllPlain (x ∷ more) = Plain x.kind × AllPlain more

pub item_goes : (x : ItemKind) (place : Place) (w : Meanings) (gone : Gone) (state : State) → Stands w gone state → Plain x → length state.scope.functions < 4294967295 → (item_kind x place state).broken ≡ [] → Front (meanings_of (item_kind x place state).state.notes) w
    → ItemGoes w gone (after_item expression (initialiser expression) bodies gone x) state (item_kind x place state).state
item_goes (k.Struct tag members) place w gone state st plain few h f = struct_goes tag members place w gone state st h f
item_goes (k.Var external d init) place w gone state st plain few h f = global_goes external d init w gone state st h f
item_goes (k.Fun d params body) place w gone state st plain few h f = function_goes d params body place w gone state st plain.0 plain.1 few h f

-- in each state on the way no struct is larger than may be
abbrev pub StaySmall : State → Type 0
StaySmall state = (structs : List StructInfo) → Begins structs state.scope.structs → AreSmall (structs_seen structs)

pub record ItemsGo (w : Meanings) (gone next : Gone) (old new : State) : Type 0 where
  pub stands : Stands w next new
  pub takes : AllTakeWhatTheyHave gone.around.signatures gone.functions → AllTakeWhatTheyHave next.around.signatures next.functions
  pub copies : StaySmall new → AllCopySmall gone.functions → AllCopySmall next.functions
  pub framed : AllPlanned new.bodies gone.around.layout.frames → AllFramed gone.functions → AllFramed next.functions
  pub layout : next.around.layout ≡ gone.around.layout
  pub of_bodies : AreOfBodies new.scope.structs gone.around.layout 0 gone.functions old.bodies → AreOfBodies new.scope.structs next.around.layout 0 next.functions new.bodies

pub items_go : (all : List Item) (w : Meanings) (gone : Gone) (state : State) → Stands w gone state → AllPlain all → length state.scope.functions + length all < 4294967296 → (items all state).broken ≡ [] → Front (meanings_of (items all state).state.notes) w
    → ItemsGo w gone (after_items expression (initialiser expression) bodies gone all) state (items all state).state
unfolding ◌then◌
items_go [] w gone state st plain few h f = record { stands = st; takes = λ all. all; copies = λ small all. all; framed = λ planned all. all; layout = refl; of_bodies = λ all. all }
items_go (x ∷ more) w gone state st plain few h f =
    let mid = (item x state).state in let h0 = first_empty (item x state).broken _ h in let h1 = second_empty (item x state).broken _ h in
    let on = items_on more gone.around mid h1 in let here = item_on x.kind x.place gone.around state h0 in
    let one = item_goes x.kind x.place w gone state st plain.0 (omega arith) h0 (front_then _ _ _ on.notes f) in
    let rest = items_go more w (after_item expression (initialiser expression) bodies gone x.kind) mid one.stands plain.1 (omega (arith, one.few)) h1 f in record {
      stands = rest.stands;
      takes = λ all. rest.takes (one.takes all);
      layout = rest.layout ∙ one.layout;
      of_bodies = λ all. rest.of_bodies (one.of_bodies (items more mid).state.scope.structs on.structs all);
      framed = λ planned all. rest.framed (subst (λ (l : SourceLayout). AllPlanned (items more mid).state.bodies l.frames) (sym one.layout) planned) (one.framed (items more mid).state.bodies on.bodies planned all);
      copies = λ small all. rest.copies small (one.copies (small state.scope.structs (begins_then _ _ _ here.structs on.structs)) all);
    }

pub items_more : (before : List Item) (x : Item) (state : State) → (items (before ++ (x ∷ [])) state).state ≡ (item x (items before state).state).state
unfolding ◌then◌
items_more [] x state = refl
items_more (y ∷ before) x state = items_more before x (item y state).state

-- its functions name globals whole
pub items_whole : (all : List Item) (w : Meanings) (gone : Gone) (state : State) → Stands w gone state → AllPlain all → length state.scope.functions + length all < 4294967296 → (items all state).broken ≡ [] → Front (meanings_of (items all state).state.notes) w
    → (tree : Tree) (before : List Item) → tree.items ≡ before ++ all → state ≡ (items before at_start).state → length (items all state).state.scope.variables ≤ 4294967295
    → AllNameWholeGlobals tree gone.around.layout gone.functions → let next = after_items expression (initialiser expression) bodies gone all in AllNameWholeGlobals tree next.around.layout next.functions
unfolding ◌then◌
items_whole [] w gone state st plain few h f tree before is from numbers named = named
items_whole (x ∷ more) w gone state st plain few h f tree before is from numbers named =
    let mid = (item x state).state in let h0 = first_empty (item x state).broken _ h in let h1 = second_empty (item x state).broken _ h in
    let on = items_on more gone.around mid h1 in
    let one = item_goes x.kind x.place w gone state st plain.0 (omega arith) h0 (front_then _ _ _ on.notes f) in
    let many = stay_many state.scope.variables (items (x ∷ more) state).state.scope.variables (items_stay (x ∷ more) state h) in
    items_whole more w (after_item expression (initialiser expression) bodies gone x.kind) mid one.stands plain.1 (omega (arith, one.few)) h1 f tree (before ++ (x ∷ []))
    (is ∙ sym (append_assoc before (x ∷ []) more)) (ap (λ s. (item x s).state) from ∙ sym (items_more before x at_start)) numbers (one.wholes tree before (x ∷ more) is from (omega (arith, many, numbers)) named)
