-- The functions of an accepted source are within the limits of code, item by item.
use Rattle.std.proofs.Common.{◌≡◌, ℕ, zero, suc, ◌+◌, ◌<◌, ◌≤◌, refl, sym, ap, ◌∙◌, subst, Bool, true, false, ◌&&◌, nat_lt, is_some, List, [], ◌∷◌, ◌++◌, map, length, if◌then◌else◌, arith}
use Rattle.std.specs.Prelude.{Option, None, Some, slice_get, slice_index_or}
use Rattle.std.specs.List.{AllByRecursion, list_all}
use Rattle.fat_ir.specs.Step.{Located}
use Rattle.mx_base.specs.declared.places.Place.{Place}
use Rattle.mx_base.specs.declared.settings.Flags.{Flags}
use Rattle.c_tree.specs.declared.tree.Tree.{Tree}
use Rattle.c_tree.specs.declared.tree.Item.{Item}
use Rattle.c_tree.specs.declared.tree.ItemKind.{ItemKind}
use Rattle.c_tree.specs.declared.tree.ItemKind.TheVariants as k
use Rattle.c_tree.specs.declared.tree.Decl.{Decl}
use Rattle.c_tree.specs.declared.tree.Stmt.{Stmt}
use Rattle.c_tree.specs.Count as count
use Rattle.c_tree.specs.Stars as star
use Rattle.c_tree.specs.Formed as formed
use Rattle.c_tree.proofs.FewStars.{formed_has_few_stars}
use Rattle.c_types.specs.Types.{CType}
use Rattle.c_check_rules.specs.Sizes.{is_within}
use Rattle.c_check_rules.specs.declared.names.Function.{Function}
use Rattle.c_check_rules.specs.declared.predeclared.Bind.TheVariants as b
use Rattle.c_check_typing.specs.declared.fault.CheckKind.TheVariants.{TooLarge}
use Rattle.c_check_typing.specs.Refusals.{breaks}
use Rattle.c_check_statements.specs.declared.decls.Use.TheVariants as u
use Rattle.c_check_statements.specs.declared.state.State.{State}
use Rattle.c_check_statements.specs.Declarations.{param_kinds, function_twice, or_none, with_function as checked_function, function_number as number_of, function_declared, counts_of, after_counts}
use Rattle.c_check_statements.specs.Functions.{parameter, enter_function, function_after, function_walk}
use Rattle.c_check_statements.specs.Sources.{item_kind, item, items, at_start}
use Rattle.c_check_statements.specs.Statements.{maybe_statement, statement}
use Rattle.c_check_statements.specs.Walks.{◌then◌, walk_all}
use Rattle.c_check.specs.Accepted.{at_first, is_too_large, IsAccepted, after}
use Rattle.c_check.specs.Standing.{structs_seen, AreLaid}
use Rattle.c_check.proofs.Standing.{StandsBy}
use Rattle.c_check.proofs.Growing.{both_hold}
use Rattle.c_check.proofs.StandingItems.{Laid, kind_laid, start_good, nodes_within}
use Rattle.bounds_plan.specs.laws.Roots.{Begins}
use Rattle.bounds_plan.specs.elaboration.Types.{Sort, ANumber, APointer, AWhole, NoValue, sort_of}
use Rattle.bounds_plan.specs.elaboration.Source.{Stand, Private, Frame, Meanings, SourceLayout, Signature, Around, declared_at, past_declaration, function_number}
use Rattle.bounds_plan.specs.elaboration.Places.{private_values_of}
use Rattle.bounds_plan.specs.elaboration.Expressions.{expression}
use Rattle.bounds_plan.specs.elaboration.Initialisers.{initialiser}
use Rattle.bounds_plan.specs.elaboration.Statements.{past_counts, maybe, declarations, statement_by}
use Rattle.bounds_plan.specs.elaboration.Functions.{no_frame, parameter_at, parameters_from, Defined, Gone, declared_all, with_signature, in_body, next_types, function_with, with_body, with_known, with_function, after_item, after_items, at_start as elaborated_at_start, gone_by, elaborated, signatures_of}
use Rattle.bounds_plan.specs.elaboration.Laws.{TakesFew, AllTakeFew}
use Rattle.bounds_plan.specs.meaning.Functions.{Parameter}
use Rattle.c_accepted.specs.Alike.{meanings_of, IsAt, Front, signature_seen, signatures_seen}
use Rattle.c_accepted.proofs.Empty.{first_empty, second_empty}
use Rattle.c_accepted.proofs.Going.{front_itself, front_then, Goes, begins_itself, begins_then}
use Rattle.c_accepted.proofs.Declaring.{declares_well, declared_more, front_declared, at_declared, type_stands, bind_stands}
use Rattle.c_accepted.proofs.Heads.{AllScalar, NoCounts, params_well, params_same}
use Rattle.c_accepted.proofs.Moving.{Knows, knows_on}
use Rattle.c_accepted.proofs.Naming.{function_listed}
use Rattle.c_accepted.proofs.Framing.{next_types_are}
use Rattle.c_accepted.proofs.Stating.{after_declared, none_after, none_in, statements_alike}
use Rattle.c_accepted.proofs.Bodies.{Stands, bodies, same_but, known_signatures, Way, way, grows_maybe, got_stays}
use Rattle.c_accepted.proofs.Wholes.{behind_no_counts}
use Rattle.c_accepted.proofs.Sourcing.{AllPlain, Plain, item_goes, items_on}
use Rattle.c_accepted.proofs.Small.{none_broken, parameters_few}
use Rattle.c_accepted.proofs.Elaborating.{all_plain, few_items, start_stands}
use Rattle.asked_steps.specs.Trees.{ParametersWithin, FunctionWithin}
use Rattle.accepted_trees.specs.Limits.{TypeWithin, TypesWithin, MeaningsWithin, StructsWithin, StandWithin, gives_pointer, AreScalars, SignatureWithin, SignaturesWithin, SymbolsServe, AroundWithin, FunctionKeeps, AllFunctionsKeep, LayoutWithin}
use Rattle.accepted_trees.proofs.Structs.{types_within, structs_within}
use Rattle.accepted_trees.proofs.Statements.{statements_within}

-- ---- lists

each_front : {X : Type 0} (P : X → Type 0) (xs ys : List X) → AllByRecursion P (xs ++ ys) → AllByRecursion P xs
each_front P [] ys h = tt
each_front P (x ∷ xs) ys h = (h.0, each_front P xs ys h.1)

each_back : {X : Type 0} (P : X → Type 0) (xs ys : List X) → AllByRecursion P (xs ++ ys) → AllByRecursion P ys
each_back P [] ys h = h
each_back P (x ∷ xs) ys h = each_back P xs ys h.1

each_both : {X : Type 0} (P : X → Type 0) (xs ys : List X) → AllByRecursion P xs → AllByRecursion P ys → AllByRecursion P (xs ++ ys)
each_both P [] ys h g = g
each_both P (x ∷ xs) ys h g = (h.0, each_both P xs ys h.1 g)

each_other : {X : Type 0} (P Q : X → Type 0) → ((x : X) → P x → Q x) → (xs : List X) → AllByRecursion P xs → AllByRecursion Q xs
each_other P Q f [] h = tt
each_other P Q f (x ∷ xs) h = (f x h.0, each_other P Q f xs h.1)

same_some : {X : Type 0} (x y : X) → Some x ≡ Some y → x ≡ y
same_some x y e = cc

-- ---- signatures

all_scalars : (ts : List CType) → AllScalar ts → AreScalars ts
all_scalars [] h = tt
all_scalars (t ∷ ts) h = (h.0, all_scalars ts h.1)

one_more : (xs : List Signature) (s : Signature) → SignaturesWithin xs → SignatureWithin s → SignaturesWithin (xs ++ (s ∷ []))
one_more [] s f q zero z e = subst SignatureWithin (same_some s z e) q
one_more [] s f q (suc n) z e = cc
one_more (x ∷ xs) s f q zero z e = f 0 z e
one_more (x ∷ xs) s f q (suc n) z e = one_more xs s (λ i y. f (suc i) y) q n z e

known_within : (known : Bool) (xs : List Signature) (s : Signature) → SignaturesWithin xs → SignatureWithin s → SignaturesWithin (if known then xs else xs ++ (s ∷ []))
known_within true xs s f q = f
known_within false xs s f q = one_more xs s f q

begins_known : (known : Bool) (xs : List Signature) (s : Signature) → Begins xs (if known then xs else xs ++ (s ∷ []))
begins_known true xs s = begins_itself xs
begins_known false xs s = record { more = s ∷ []; is = refl }

got_in : (xs ys : List Signature) (n : ℕ) (s : Signature) → Begins xs ys → slice_get xs n ≡ Some s → slice_get ys n ≡ Some s
got_in xs ys n s h e = ap (λ l. slice_get l n) h.is ∙ got_stays xs h.more n s e

-- ---- parameters

parameter_within : (sort : Sort) (s : Stand) (x : ℕ) (rest : List Parameter) → StandWithin s → ParametersWithin rest → ParametersWithin (parameter_at sort s x ∷ rest)
parameter_within (ANumber kind) Private x rest h g = g
parameter_within APointer Private x rest h g = g
parameter_within AWhole Private x rest h g = (omega arith, g)
parameter_within NoValue Private x rest h g = (omega arith, g)
parameter_within (ANumber kind) (Frame offset) x rest h g = (h, g)
parameter_within APointer (Frame offset) x rest h g = (h, g)
parameter_within AWhole (Frame offset) x rest h g = (h, g)
parameter_within NoValue (Frame offset) x rest h g = (h, g)

parameters_within : (x : ℕ) (ts : List CType) (ss : List Stand) → AllByRecursion StandWithin ss → ParametersWithin (parameters_from x ts ss)
parameters_within x [] ss h = tt
parameters_within x (t ∷ ts) [] h = (omega arith, parameters_within x ts [] tt)
parameters_within x (t ∷ ts) (s ∷ ss) h = parameter_within (sort_of t) s x _ h.0 (parameters_within (x + length (private_values_of (sort_of t) s)) ts ss h.1)

module _ (located : ℕ → Located) (returns : ℕ → Bool) (takes : ℕ → List (ℕ × Option ℕ) → Bool) where
  abbrev AllKeep : List Signature → List Defined → Type 0
  AllKeep signatures defined = AllFunctionsKeep located returns takes signatures defined

  -- symbols that serve all functions serve the first ones
  serve_first : (layout : SourceLayout) (first all : List Signature) → Begins first all → SymbolsServe located returns takes layout all → SymbolsServe located returns takes layout first
  serve_first layout first all h s = record { low = s.low; serve = λ number z e. s.serve number z (got_in first all number z h e) }

  -- ---- a body

  body_keeps : (body : Option Stmt) (number : ℕ) (s : Signature) (gone : Gone) (one : State) → formed.formed_body body ≡ true → Knows gone.around one → IsAt gone.after (meanings_of one.notes) → (maybe_statement body one).broken ≡ []
      → Front (meanings_of (maybe_statement body one).state.notes) gone.around.meanings → TypesWithin gone.around.structs s.parameters → MeaningsWithin gone.around.structs (meanings_of (maybe_statement body one).state.notes) → StructsWithin gone.around.structs
      → SignaturesWithin gone.around.signatures → length one.scope.functions ≤ 4294967295 → gone.around.signatures ≡ signatures_seen one.scope.functions → LayoutWithin gone.around.layout → slice_get gone.around.signatures number ≡ Some s
      → (finals : List Signature) → Begins gone.around.signatures finals → SymbolsServe located returns takes gone.around.layout finals → AllKeep finals gone.functions → AllKeep finals (with_body (maybe bodies body) number s gone).functions
  body_keeps None number s gone one is knows at h w params types structs within few same layout there finals first serve all = all
  body_keeps (Some stmt) number s gone one is knows at h w params types structs within few same layout there finals first serve all =
      let frame = slice_index_or gone.around.layout.frames gone.after.body no_frame in let next = next_types gone.around gone.after (declarations stmt) in
      let around = in_body (s.parameters ++ next) frame.stands s.result gone.around in
      let x = statements_alike stmt one around knows h in let m = meanings_of (statement stmt one).state.notes in
      let declared = subst (TypesWithin gone.around.structs) x.moves.grows.declared types.declared in
      let next_is = next_types_are gone.around gone.after one.notes.declared x.moves.grows.types _ (declarations stmt) w.declared x.moves.grows.declared at.declaration x.moves.grows.many in
      let next_within = subst (TypesWithin gone.around.structs) (sym next_is) (each_back (TypeWithin gone.around.structs) one.notes.declared x.moves.grows.types declared) in
      let stand = layout.frames gone.after.body in
      let around_in : AroundWithin located returns takes around = record {
        structs = structs;
        variables = each_both (TypeWithin gone.around.structs) s.parameters next params next_within;
        stands = stand;
        literals = layout.literals;
        signatures = within;
        symbols = serve_first gone.around.layout gone.around.signatures finals first serve;
      } in
      let stated = statements_within located (gives_pointer (sort_of s.result)) returns takes stmt (both_hold (formed.formed_stmt stmt) (formed.seen_stmt stmt).braces is).0 one around knows h m
      record { front = w; types = types; within = around_in; few = few; signatures = same } refl gone.after (front_itself m) at in
      let whole : FunctionWithin located (gives_pointer (sort_of s.result)) returns takes (function_with gone.around.structs s.parameters (s.parameters ++ next) frame (statement_by expression (initialiser expression) stmt around gone.after).statement)
      = record { parameters = parameters_within 0 s.parameters frame.stands stand; body = stated } in
      each_both (FunctionKeeps located returns takes finals) gone.functions _ all (record { signature = s; known = got_in gone.around.signatures finals number s first there; within = whole }, tt)

  body_around : (body : Option Stmt) (number : ℕ) (s : Signature) (gone : Gone) → (with_body (maybe bodies body) number s gone).around ≡ gone.around
  body_around None number s gone = refl
  body_around (Some stmt) number s gone = refl

  -- ---- an item

  record ItemKeeps (gone next : Gone) : Type 0 where
    begins : Begins gone.around.signatures next.around.signatures
    signatures : SignaturesWithin next.around.signatures
    keeps : (finals : List Signature) → Begins next.around.signatures finals → SymbolsServe located returns takes gone.around.layout finals → AllKeep finals gone.functions → AllKeep finals next.functions

  inner_keeps : (d : Decl) (params : List Decl) (body : Option Stmt) (w : Meanings) (gone : Gone) (state : State) (kind : CType) → Stands w gone state → Goes (counts_of state d).after (past_counts expression d) → d.counts ≡ [] → NoCounts params
      → length state.scope.functions < 4294967295 → function_twice d.name params state.scope (Some kind) ≡ false → (new : State)
      → Way (number_of d.name state.scope) params body (enter_function (Some kind) (checked_function d.name params (is_some body) kind (after_counts state d))) new → Front (meanings_of new.notes) w
      → formed.formed_body body ≡ true → length params ≤ 6 → length new.scope.functions ≤ 4294967295 → MeaningsWithin (structs_seen new.scope.structs) (meanings_of new.notes) → StructsWithin (structs_seen new.scope.structs) → SignaturesWithin gone.around.signatures → LayoutWithin gone.around.layout
      → ItemKeeps gone (with_function expression d params (maybe bodies body) gone)
  inner_keeps d params body w gone state kind st counts none plain few once new by f is six many types structs within layout =
      let number = number_of d.name state.scope in let bind = b.Fun number in let m = meanings_of (after_counts state d).notes in
      let start = enter_function (Some kind) (checked_function d.name params (is_some body) kind (after_counts state d)) in
      let knows0 : Knows gone.around start = st.structs in
      let one = (walk_all (map parameter params) start).state in let p = params_well params start gone.around knows0 by.through_params in
      let knows1 = knows_on gone.around start one (length params) knows0 p.moves.grows in
      let two = (maybe_statement body one).state in let more = grows_maybe body one gone.around knows1 by.through_body in
      let grown = more.grows in
      let wf = subst (Front (meanings_of two.notes)) (sym st.meanings) (subst (λ x. Front x w) by.notes f) in
      let w1 = front_then (meanings_of one.notes) (meanings_of two.notes) gone.around.meanings grown.on wf in
      let w0 = front_then (declared_more bind kind m) (meanings_of one.notes) gone.around.meanings p.moves.grows.on w1 in
      let at0 = subst (λ r. IsAt r m) (behind_no_counts d gone.around gone.after none) (counts.at state.notes gone.around gone.after (front_then m (declared_more bind kind m) gone.around.meanings (front_declared bind kind m) w0) st.at) in
      let first = at_declared bind kind m gone.after at0 in
      let ps = declared_all expression past_declaration params gone.around (past_declaration gone.after) in
      let ps_at = p.moves.at (past_declaration gone.after) w1 first in let ps_types = p.types (past_declaration gone.after) w1 first in
      let same_types = params_same state.scope start.scope refl params ∙ p.plain plain in
      let known : Function = record { name = d.name; result = kind; params = or_none (param_kinds state.scope params); defined = is_some body } in
      let listed = function_listed state.scope d.name params known few (same_types ∙ ap Some (sym (ap or_none same_types))) once in
      let s : Signature = record { result = declared_at gone.around gone.after; parameters = ps.types } in
      let s_is : s ≡ signature_seen known = (λ i. record { result = type_stands bind kind m gone.around gone.after w0 at0 i; parameters = (ps_types ∙ sym (ap or_none same_types)) i }) in
      let is_known = nat_lt number (length gone.around.signatures) in let around = with_signature number s gone.around in let same = same_but is_known s gone.around in
      let as_known = known_signatures is_known s gone.around in
      let signatures : around.signatures ≡ signatures_seen start.scope.functions = as_known
      ∙ ((λ i. if nat_lt number (length (st.signatures i)) then st.signatures i else st.signatures i ++ (s_is i ∷ [])) ∙ listed.all) in
      let there = ap (λ l. slice_get l number) signatures ∙ (listed.there ∙ ap Some (sym s_is)) in
      let next : Gone = record { around = around; after = ps.after; functions = gone.functions } in
      let now : new.scope.structs ≡ state.scope.structs = by.structs ∙ (grown.structs ∙ p.moves.grows.structs) in
      let by_new : around.structs ≡ structs_seen new.scope.structs = same.structs ∙ (st.structs ∙ ap structs_seen (sym now)) in
      let of_one : new.scope.functions ≡ one.scope.functions = by.functions ∙ grown.functions in
      let types2 = subst (λ x. MeaningsWithin around.structs x) by.notes (subst (λ ss. MeaningsWithin ss (meanings_of new.notes)) (sym by_new) types) in
      let declared1 = each_front (TypeWithin around.structs) one.notes.declared grown.types (subst (TypesWithin around.structs) grown.declared types2.declared) in
      let params_in = each_back (TypeWithin around.structs) start.notes.declared p.moves.grows.types (subst (TypesWithin around.structs) p.moves.grows.declared declared1) in
      let long = ap length ps_types in let long1 = p.moves.grows.many in
      let one_within : SignatureWithin s = record { few = omega (arith, long, long1, six); scalars = subst AreScalars (sym ps_types) (all_scalars p.moves.grows.types (p.scalars plain)) } in
      let all_within = subst SignaturesWithin (sym as_known) (known_within is_known gone.around.signatures s within one_within) in
      let layout1 = subst LayoutWithin (sym same.layout) layout in
      let last = with_body (maybe bodies body) number s next in let last_around = body_around body number s next in
      subst (λ o. ItemKeeps gone (with_known o s (maybe bodies body) record gone { after = ps.after })) (sym (ap function_number (bind_stands bind kind m gone.around gone.after w0 at0))) record {
        begins = subst (λ (a : Around). Begins gone.around.signatures a.signatures) (sym last_around) (subst (Begins gone.around.signatures) (sym as_known) (begins_known is_known gone.around.signatures s));
        signatures = subst (λ (a : Around). SignaturesWithin a.signatures) (sym last_around) all_within;
        keeps = λ finals first serve all. body_keeps body number s next one is (same.structs ∙ knows1) ps_at by.through_body (subst (Front (meanings_of two.notes)) (sym same.meanings) wf)
            (subst (TypesWithin around.structs) (sym ps_types) params_in) types2 (subst StructsWithin (sym by_new) structs) all_within (subst (λ fs. length fs ≤ 4294967295) of_one many)
            (signatures ∙ ap signatures_seen (sym p.moves.grows.functions)) layout1 there finals (subst (λ (a : Around). Begins a.signatures finals) last_around first)
            (subst (λ l. SymbolsServe located returns takes l finals) (sym same.layout) serve) all;
      }

  function_keeps : (d : Decl) (params : List Decl) (body : Option Stmt) (place : Place) (w : Meanings) (gone : Gone) (state : State) → Stands w gone state → d.counts ≡ [] → NoCounts params → length state.scope.functions < 4294967295
      → (function_walk d params body place state).broken ≡ [] → let new = (function_walk d params body place state).state in Front (meanings_of new.notes) w
      → formed.formed_body body ≡ true → length params ≤ 6 → length new.scope.functions ≤ 4294967295 → MeaningsWithin (structs_seen new.scope.structs) (meanings_of new.notes) → StructsWithin (structs_seen new.scope.structs) → SignaturesWithin gone.around.signatures → LayoutWithin gone.around.layout
      → ItemKeeps gone (with_function expression d params (maybe bodies body) gone)
  function_keeps d params body place w gone state st none plain few h f is six many types structs within layout =
      let declared = function_declared (is_some body) params d state in let number = number_of d.name state.scope in let behind = function_after number d params body place in
      let known = declares_well u.Result (function_twice d.name params) false (checked_function d.name params (is_some body)) d state (none_in declared behind h) in
      let mid = checked_function d.name params (is_some body) known.kind (after_counts state d) in
      let same = after_declared declared behind known.kind mid known.is known.next in
      let by = way number d params body place known.kind mid (none_after declared behind known.kind mid known.is known.next h) in
      inner_keeps d params body w gone state known.kind st known.goes none plain few known.once (behind (Some known.kind) mid).state by (subst (λ (new : State). Front (meanings_of new.notes) w) same f) is six
      (subst (λ (new : State). length new.scope.functions ≤ 4294967295) same many) (subst (λ (new : State). MeaningsWithin (structs_seen new.scope.structs) (meanings_of new.notes)) same types)
      (subst (λ (new : State). StructsWithin (structs_seen new.scope.structs)) same structs) within layout

  item_keeps : (x : ItemKind) (place : Place) (w : Meanings) (gone : Gone) (state : State) → Stands w gone state → Plain x → TakesFew x → formed.formed_kind x ≡ true → length state.scope.functions < 4294967295
      → (item_kind x place state).broken ≡ [] → let new = (item_kind x place state).state in Front (meanings_of new.notes) w
      → length new.scope.functions ≤ 4294967295 → MeaningsWithin (structs_seen new.scope.structs) (meanings_of new.notes) → StructsWithin (structs_seen new.scope.structs) → SignaturesWithin gone.around.signatures → LayoutWithin gone.around.layout
      → ItemKeeps gone (after_item expression (initialiser expression) bodies gone x)
  item_keeps (k.Struct tag members) place w gone state st plain six is few h f many types structs within layout = record { begins = begins_itself gone.around.signatures; signatures = within; keeps = λ finals first serve all. all }
  item_keeps (k.Var external d init) place w gone state st plain six is few h f many types structs within layout = record { begins = begins_itself gone.around.signatures; signatures = within; keeps = λ finals first serve all. all }
  item_keeps (k.Fun d params body) place w gone state st plain six is few h f many types structs within layout =
      function_keeps d params body place w gone state st plain.0 plain.1 few h f (both_hold (formed.without_counts d && list_all formed.without_counts params) (formed.formed_body body) is).1 six many types structs within layout

  -- ---- all items

  -- types that stand by the structs of a state are within the limits by them
  known_types : (state : State) (most : ℕ) (laid : AreLaid [] state.scope.structs) (ts : List CType) → AllByRecursion (StandsBy most state.scope.structs) ts → TypesWithin (structs_seen state.scope.structs) ts
  known_types state most laid ts h = types_within state laid ts (each_other (StandsBy most state.scope.structs) (λ t. is_within state.scope.structs t ≡ true) (λ t g. g.0) ts h)

  record ItemsKeep (gone next : Gone) : Type 0 where
    begins : Begins gone.around.signatures next.around.signatures
    keeps : (finals : List Signature) → Begins next.around.signatures finals → SymbolsServe located returns takes gone.around.layout finals → AllKeep finals gone.functions → AllKeep finals next.functions

  items_keep : (all : List Item) (m top : ℕ) (w : Meanings) (gone : Gone) (state : State) → Stands w gone state → AllPlain all → AllTakeFew all → list_all formed.formed_item all ≡ true → star.most (map (λ (x : Item). star.kind_stars x.kind) all) ≤ 255
      → m + count.total (map count.item_nodes all) ≤ top → top ≤ 32768 → Laid m state → length state.scope.functions + length all < 4294967295 → (items all state).broken ≡ [] → Front (meanings_of (items all state).state.notes) w
      → SignaturesWithin gone.around.signatures → LayoutWithin gone.around.layout → ItemsKeep gone (after_items expression (initialiser expression) bodies gone all)
  unfolding ◌then◌
  items_keep [] m top w gone state st plain six is stars at room laid few h f within layout = record { begins = begins_itself gone.around.signatures; keeps = λ finals first serve all. all }
  items_keep (x ∷ more) m top w gone state st plain six is stars at room laid few h f within layout =
      let mid = (item x state).state in let h0 = first_empty (item x state).broken _ h in let h1 = second_empty (item x state).broken _ h in
      let on = items_on more gone.around mid h1 in let f0 = front_then _ _ _ on.notes f in
      let both = both_hold (formed.formed_item x) (list_all formed.formed_item more) is in let here = (both_hold (formed.stands x.place) (formed.formed_kind x.kind) both.0).1 in
      let laid1 = kind_laid x.kind x.place m (m + count.item_nodes x) state here (omega (arith, stars)) (omega arith) (omega (arith, at, room)) h0 laid in
      let one = item_goes x.kind x.place w gone state st plain.0 (omega (arith, few)) h0 f0 in let more_few = one.few in
      let next = after_item expression (initialiser expression) bodies gone x.kind in
      let types : MeaningsWithin (structs_seen mid.scope.structs) (meanings_of mid.notes) = record {
        kinds = known_types mid (255 + (m + count.item_nodes x)) laid1.laid mid.notes.kinds laid1.good.notes.kinds;
        declared = known_types mid (255 + (m + count.item_nodes x)) laid1.laid mid.notes.declared laid1.good.notes.declared;
      } in
      let keep = item_keeps x.kind x.place w gone state st plain.0 six.0 here (omega (arith, few)) h0 f0 (omega (arith, few, more_few)) types (structs_within mid laid1.laid) within layout in
      let rest = items_keep more (m + count.item_nodes x) top w next mid one.stands plain.1 six.1 both.1 (omega (arith, stars)) (omega (arith, at)) room laid1 (omega (arith, few, more_few)) h1 f keep.signatures (subst LayoutWithin (sym one.layout) layout) in record {
        begins = begins_then _ _ _ keep.begins rest.begins;
        keeps = λ finals first serve all. rest.keeps finals first (subst (λ l. SymbolsServe located returns takes l finals) (sym one.layout) serve) (keep.keeps finals (begins_then _ _ _ rest.begins first) serve all);
      }

  -- ---- a source

  pub functions_keep : (tree : Tree) (room : ℕ) → formed.IsFormed tree → room ≤ 32768 → IsAccepted tree room → (layout : SourceLayout) (flags : Flags) → LayoutWithin layout → let meanings = meanings_of (after tree).notes in
      SymbolsServe located returns takes layout (signatures_of tree meanings layout flags) → AllKeep (signatures_of tree meanings layout flags) (elaborated tree meanings layout flags)
  unfolding gone_by
  functions_keep tree room is few h layout flags within serve =
      let w = meanings_of (after tree).notes in let start = elaborated_at_start w layout flags in
      let large = first_empty (at_first tree.items (breaks TooLarge (is_too_large tree room))) _ h in let nodes = nodes_within room tree.items large in let long = few_items tree room h in
      let all = items_keep tree.items 0 (count.tree_nodes tree) w start at_start (start_stands w layout flags) (all_plain tree.items is) (parameters_few tree room h) is (formed_has_few_stars tree is) (omega arith) (omega (arith, nodes, few))
      record { laid = tt; good = start_good } (omega (arith, long, few)) (none_broken tree room h) (front_itself w) (λ number s e. none_there number s e) within in
      all.keeps (signatures_of tree w layout flags) (begins_itself (signatures_of tree w layout flags)) serve tt
    where
      none_there : (number : ℕ) (s : Signature) → slice_get [] number ≡ Some s → SignatureWithin s
      none_there number s e = cc
