-- The elaboration goes through a function without broken rules as the checker does, from its declaration to its end.
use Rattle.std.proofs.Common.{◌≡◌, ℕ, ◌+◌, ◌<◌, ◌≤◌, refl, sym, ap, ◌∙◌, subst, true, false, nat_lt, List, [], ◌∷◌, ◌++◌, map, length, if◌then◌else◌, arith}
use Rattle.std.specs.Prelude.{Option, None, Some, is_some, slice_get, slice_index_or}
use Rattle.mx_base.specs.declared.places.Place.{Place}
use Rattle.c_tree.specs.declared.tree.Decl.{Decl}
use Rattle.c_tree.specs.declared.tree.Stmt.{Stmt}
use Rattle.c_types.specs.Types.{CType}
use Rattle.c_check_rules.specs.declared.names.StructInfo.{StructInfo}
use Rattle.c_check_rules.specs.declared.names.Function.{Function}
use Rattle.c_check_rules.specs.declared.predeclared.Bind.TheVariants as b
use Rattle.c_check_rules.specs.Names.{tags, member_names, function_at}
use Rattle.c_check_statements.specs.declared.decls.Use.TheVariants as u
use Rattle.c_check_statements.specs.declared.state.State.{State}
use Rattle.c_check_statements.specs.declared.state.Body.{Body as CheckedBody}
use Rattle.c_check_statements.specs.Declarations.{param_kinds, function_twice, or_none, with_function as checked_function, function_number as number_of, function_declared, counts_of, after_counts}
use Rattle.c_check_statements.specs.Functions.{variables_of, parameter, enter_function, function_after, function_walk}
use Rattle.c_check_statements.specs.Statements.{maybe_statement}
use Rattle.c_check_statements.specs.Walks.{walk_all}
use Rattle.c_check.specs.Standing.{structs_seen}
use Rattle.bounds_plan.specs.laws.Roots.{Begins}
use Rattle.bounds_plan.specs.elaboration.Source.{FrameLayout, Meanings, Reached, Signature, Around, declared_at, past_declaration, function_number}
use Rattle.bounds_plan.specs.elaboration.Expressions.{expression, find_all}
use Rattle.bounds_plan.specs.elaboration.Statements.{past_counts, maybe}
use Rattle.bounds_plan.specs.elaboration.Functions.{no_frame, Gone, declared_all, with_signature, with_body, with_known, with_function}
use Rattle.c_accepted.specs.Alike.{meanings_of, IsAt, Front, signature_seen, signatures_seen, AllTakeWhatTheyHave}
use Rattle.c_accepted.specs.Frames.{AllPlanned, AreOfBodies}
use Rattle.c_accepted.proofs.Going.{front_then, Goes}
use Rattle.c_accepted.proofs.Gives.{AreSmall}
use Rattle.c_accepted.proofs.Declaring.{declares_well, declared_more, front_declared, at_declared, type_stands, bind_stands}
use Rattle.c_accepted.proofs.Heads.{AllScalar, NoCounts, params_well, params_same}
use Rattle.c_accepted.specs.Wholes.{AllNameWholeGlobals}
use Rattle.c_accepted.proofs.Moving.{Knows, knows_on}
use Rattle.c_accepted.proofs.Naming.{function_listed, one_more}
use Rattle.c_accepted.proofs.Framing.{frame_has_room}
use Rattle.c_check.proofs.KeptBodies.{kept_maybe_statement}
use Rattle.c_accepted.proofs.Small.{kept_params}
use Rattle.c_accepted.proofs.Numbering.{declared_same}
use Rattle.c_accepted.proofs.Stating.{after_declared, none_after, none_in}
use Rattle.c_accepted.proofs.Bodies.{Stands, ItemGoes, bodies, next_frame, noted_bodies, body_goes, same_but, known_signatures, takes_known, Way, way, grows_maybe}

pub behind_no_counts : (d : Decl) (around : Around) (r : Reached) → d.counts ≡ [] → past_counts expression d around r ≡ r
behind_no_counts d around r none = ap (λ cs. (find_all (map expression cs) around r).after) none

-- the frame of a body has room for its parameters
pub room_in : (body : Option Stmt) (number : ℕ) (before : List CheckedBody) (two : State) (all now : List CheckedBody) (frame : FrameLayout) (frames : List FrameLayout) (params types others made : List CType) → length params ≡ length types → made ≡ [] ++ types → two.scope.made ≡ made ++ others
    → two.bodies ≡ before → now ≡ noted_bodies body number two → Begins now all → frame ≡ slice_index_or frames (length before) no_frame → AllPlanned all frames → is_some body ≡ true → length params ≤ length frame.stands
room_in None number before two all now frame frames params types others made e m o kept noted begins f planned is = cc
room_in (Some x) number before two all now frame frames params types others made e m o kept noted begins f planned is =
    let b : CheckedBody = record { number = number; variables = variables_of two } in
    let whole : all ≡ (before ++ (b ∷ [])) ++ begins.more = begins.is ∙ (ap (λ l. l ++ begins.more) noted ∙ ap (λ l. (l ++ (b ∷ [])) ++ begins.more) kept) in
    let le = frame_has_room before b begins.more all frames types others two.scope.made two.notes.taken whole refl (o ∙ ap (λ l. l ++ others) m) planned in
    omega (arith, e, le, ap (λ (x : FrameLayout). length x.stands) f)

pub inner_goes : (d : Decl) (params : List Decl) (body : Option Stmt) (w : Meanings) (gone : Gone) (state : State) (kind : CType) → Stands w gone state → Goes (counts_of state d).after (past_counts expression d) → d.counts ≡ [] → NoCounts params
    → length state.scope.functions < 4294967295 → function_twice d.name params state.scope (Some kind) ≡ false → (new : State)
    → Way (number_of d.name state.scope) params body (enter_function (Some kind) (checked_function d.name params (is_some body) kind (after_counts state d))) new → Front (meanings_of new.notes) w
    → ItemGoes w gone (with_function expression d params (maybe bodies body) gone) state new
inner_goes d params body w gone state kind st counts none plain few once new by f =
    let number = number_of d.name state.scope in let bind = b.Fun number in let m = meanings_of (after_counts state d).notes in
    let start = enter_function (Some kind) (checked_function d.name params (is_some body) kind (after_counts state d)) in
    let knows0 : Knows gone.around start = st.structs in
    let one = (walk_all (map parameter params) start).state in let p = params_well params start gone.around knows0 by.through_params in
    let knows1 = knows_on gone.around start one (length params) knows0 p.moves.grows in
    let two = (maybe_statement body one).state in let more = grows_maybe body one gone.around knows1 by.through_body in
    let grown = more.grows in
    let wf = subst (Front (meanings_of two.notes)) (sym st.meanings) (subst (λ x. Front x w) by.notes f) in
    let w1 = front_then (meanings_of one.notes) (meanings_of two.notes) gone.around.meanings grown.on wf in
    let w0 = front_then (declared_more bind kind m) (meanings_of one.notes) gone.around.meanings p.moves.grows.on w1 in
    let at0 = subst (λ r. IsAt r m) (behind_no_counts d gone.around gone.after none) (counts.at state.notes gone.around gone.after (front_then m (declared_more bind kind m) gone.around.meanings (front_declared bind kind m) w0) st.at) in
    let first = at_declared bind kind m gone.after at0 in
    let ps = declared_all expression past_declaration params gone.around (past_declaration gone.after) in
    let ps_at = p.moves.at (past_declaration gone.after) w1 first in let ps_types = p.types (past_declaration gone.after) w1 first in
    let types = params_same state.scope start.scope refl params ∙ p.plain plain in
    let known : Function = record { name = d.name; result = kind; params = or_none (param_kinds state.scope params); defined = is_some body } in
    let listed = function_listed state.scope d.name params known few (types ∙ ap Some (sym (ap or_none types))) once in
    let s : Signature = record { result = declared_at gone.around gone.after; parameters = ps.types } in
    let s_is : s ≡ signature_seen known = (λ i. record { result = type_stands bind kind m gone.around gone.after w0 at0 i; parameters = (ps_types ∙ sym (ap or_none types)) i }) in
    let is_known = nat_lt number (length gone.around.signatures) in let around = with_signature number s gone.around in let same = same_but is_known s gone.around in
    let signatures : around.signatures ≡ signatures_seen start.scope.functions = known_signatures is_known s gone.around
    ∙ ((λ i. if nat_lt number (length (st.signatures i)) then st.signatures i else st.signatures i ++ (s_is i ∷ [])) ∙ listed.all) in
    let next : Gone = record { around = around; after = ps.after; functions = gone.functions } in
    let go = body_goes body number s next one (same.structs ∙ knows1) ps_at by.through_body (subst (Front (meanings_of two.notes)) (sym same.meanings) wf) in
    let last = with_body (maybe bodies body) number s next in
    let kept : two.bodies ≡ state.bodies = kept_maybe_statement body one ∙ kept_params params start in
    let counted : next.after.body ≡ length two.bodies = declared_same past_declaration (λ r. refl) params gone.around (past_declaration gone.after) ∙ (st.body ∙ ap length (sym kept)) in
    let there = ap (λ l. slice_get l number) signatures ∙ (listed.there ∙ ap Some (sym s_is)) in
    let structs : new.scope.structs ≡ state.scope.structs = by.structs ∙ (grown.structs ∙ p.moves.grows.structs) in
    let functions : new.scope.functions ≡ start.scope.functions = by.functions ∙ (grown.functions ∙ p.moves.grows.functions) in
    let room = λ (all : List CheckedBody) (begins : Begins new.bodies all) (planned : AllPlanned all gone.around.layout.frames) (is : is_some body ≡ true). room_in body number state.bodies two all new.bodies (next_frame next) gone.around.layout.frames s.parameters (p.moves.grows.types) grown.types one.scope.made
    (ap length ps_types) p.moves.grows.made grown.made kept by.bodies begins (λ i. slice_index_or (same.layout i).frames ((declared_same past_declaration (λ r. refl) params gone.around (past_declaration gone.after) ∙ st.body) i) no_frame) planned is in
    subst (λ o. ItemGoes w gone (with_known o s (maybe bodies body) record gone { after = ps.after }) state new) (sym (ap function_number (bind_stands bind kind m gone.around gone.after w0 at0))) record {
      stands = record {
        at = subst (IsAt last.after) (sym by.notes) go.at;
        body = go.body counted ∙ ap length (sym by.bodies);
        meanings = ap (λ (a : Around). a.meanings) go.around ∙ (same.meanings ∙ st.meanings);
        structs = ap (λ (a : Around). a.structs) go.around ∙ (same.structs ∙ (st.structs ∙ ap structs_seen (sym structs)));
        tags_same = ap (λ (a : Around). a.tags) go.around ∙ (same.tags_same ∙ (st.tags_same ∙ ap tags (sym structs)));
        members = ap (λ (a : Around). a.members) go.around ∙ (same.members ∙ (st.members ∙ ap (map (λ (x : StructInfo). member_names x.members)) (sym structs)));
        signatures = ap (λ (a : Around). a.signatures) go.around ∙ (signatures ∙ ap signatures_seen (sym functions));
      };
      few = subst (λ fs. length fs ≤ length state.scope.functions + 1) (sym functions) (one_more state.scope.functions (function_at state.scope d.name) known);
      takes = λ all. subst (λ (a : Around). AllTakeWhatTheyHave a.signatures last.functions) (sym go.around) (go.takes there (takes_known is_known s gone.around gone.functions all));
      layout = ap (λ (a : Around). a.layout) go.around ∙ same.layout;
      of_bodies = λ final begins all. subst (λ bs. AreOfBodies final last.around.layout 0 last.functions bs) (sym by.bodies) (subst (λ (a : Around). AreOfBodies final a.layout 0 last.functions (noted_bodies body number two)) (sym go.around)
          (go.of_body final state.scope.structs state.bodies (subst (λ xs. Begins xs final) structs begins) (same.structs ∙ st.structs) (p.moves.grows.made ∙ sym ps_types)
          (declared_same past_declaration (λ r. refl) params gone.around (past_declaration gone.after) ∙ st.body) kept (subst (λ l. AreOfBodies final l 0 gone.functions state.bodies) (sym same.layout) all)));
      framed = λ all begins planned framed. go.framed (subst AllScalar (sym ps_types) (p.scalars plain)) (room all begins planned) framed;
      copies = λ small all. go.copies (subst AreSmall (sym (same.structs ∙ st.structs)) small) all;
      wholes = λ tree before others is from few all. subst (λ (a : Around). AllNameWholeGlobals tree a.layout last.functions) (sym go.around)
          (go.wholes tree before others is (same.structs ∙ (st.structs ∙ ap (λ (x : State). structs_seen x.scope.structs) from)) (p.moves.grows.variables ∙ ap (λ (x : State). x.scope.variables) from)
          (subst (λ (x : State). length x.scope.variables ≤ 4294967295) from few) (subst (λ l. AllNameWholeGlobals tree l gone.functions) (sym same.layout) all));
    }

pub function_goes : (d : Decl) (params : List Decl) (body : Option Stmt) (place : Place) (w : Meanings) (gone : Gone) (state : State) → Stands w gone state → d.counts ≡ [] → NoCounts params → length state.scope.functions < 4294967295
    → (function_walk d params body place state).broken ≡ [] → Front (meanings_of (function_walk d params body place state).state.notes) w
    → ItemGoes w gone (with_function expression d params (maybe bodies body) gone) state (function_walk d params body place state).state
function_goes d params body place w gone state st none plain few h f =
    let declared = function_declared (is_some body) params d state in let number = number_of d.name state.scope in let behind = function_after number d params body place in
    let known = declares_well u.Result (function_twice d.name params) false (checked_function d.name params (is_some body)) d state (none_in declared behind h) in
    let mid = checked_function d.name params (is_some body) known.kind (after_counts state d) in
    let same = after_declared declared behind known.kind mid known.is known.next in
    let by = way number d params body place known.kind mid (none_after declared behind known.kind mid known.is known.next h) in
    subst (λ new. ItemGoes w gone (with_function expression d params (maybe bodies body) gone) state new) (sym same)
    (inner_goes d params body w gone state known.kind st known.goes none plain few known.once (behind (Some known.kind) mid).state by (subst (λ new. Front (meanings_of new.notes) w) same f))
