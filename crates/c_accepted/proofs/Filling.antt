-- The elaboration goes through an initialiser without broken rules as the checker does.
use Rattle.std.proofs.Common.{◌≡◌, ℕ, zero, suc, ◌+◌, ◌≤◌, refl, sym, ap, ◌∙◌, subst, Bool, true, false, nat_lt, cond, List, [], ◌∷◌, ◌++◌, map, length, append_assoc, length-append, arith}
use Rattle.std.specs.Prelude.{Option, None, Some, slice_get}
use Rattle.std.proofs.lemmas.Bool.Decides.{nat_tests}
use Rattle.mx_base.specs.declared.places.Place.{Place}
use Rattle.c_tree.specs.declared.tree.Expr.{Expr}
use Rattle.c_tree.specs.declared.tree.Init.{Init, Init-F, fold-Init}
use Rattle.c_tree.specs.declared.tree.InitKind.{InitKind-F}
use Rattle.c_tree.specs.declared.tree.InitKind.TheFolds as nf
use Rattle.c_tree.specs.declared.tree.InitKind.TheOpen as i
use Rattle.c_types.specs.Types.{CType, Void, Int, Pointer, Array, Struct, members_of}
use Rattle.c_types.specs.Layouts.{next_multiple, layout_of, offsets_from}
use Rattle.c_types.specs.declared.layout.Layout.{Layout}
use Rattle.c_check_rules.specs.declared.names.Member.{Member}
use Rattle.c_check_rules.specs.declared.names.Variable.{Variable}
use Rattle.c_check_rules.specs.Kinds.{outer_of}
use Rattle.c_check_rules.specs.Names.{member_kind}
use Rattle.c_check_typing.specs.declared.fault.CheckKind.TheVariants.{BadType}
use Rattle.c_check_typing.specs.declared.typed.Notes.{Notes}
use Rattle.c_check_typing.specs.Notes.{Seen, unevaluated}
use Rattle.c_check_statements.specs.declared.initialisers.Filled.{Filled}
use Rattle.c_check_statements.specs.declared.state.State.{State}
use Rattle.c_check_statements.specs.Initialisers.{filling, fills_target, filling_walk, one_kinds, one_word, notes_word, one, is_crowded, many_kinds, many_judged, struct_members, part, part_of, part_walk, parts}
use Rattle.c_check_statements.specs.Initialisers as c
use Rattle.c_check_statements.specs.Structs.{kinds_in}
use Rattle.c_check_statements.specs.Walks.{◌then◌, at_node, seen_in, past}
use Rattle.bounds_plan.specs.elaboration.Source.{Meanings, Reached, Around}
use Rattle.bounds_plan.specs.meaning.Core.{Effect}
use Rattle.bounds_plan.specs.elaboration.Scalars.{scalars_of, scalar_at}
use Rattle.bounds_plan.specs.elaboration.Types.{size_in}
use Rattle.bounds_plan.specs.elaboration.Places.{Lvalue}
use Rattle.bounds_plan.specs.elaboration.Expressions.{expression}
use Rattle.bounds_plan.specs.elaboration.Initialisers.{Filling, after_one, one_filled, elements_filled, members_filled, many_filled, init_step, initialiser}
use Rattle.c_tree.proofs.Inductions.{InitA, InitB, bare_inits, every_inits, inits_fused}
use Rattle.c_accepted.specs.Alike.{meanings_of, IsAt, Front}
use Rattle.c_accepted.specs.Wholes.{IsWhole}
use Rattle.c_accepted.proofs.Empty.{none_at, not_broken, not_above}
use Rattle.c_accepted.proofs.Going.{nothing_more, front_itself, front_then, Goes}
use Rattle.c_accepted.proofs.Expressions.{expressions_alike}
use Rattle.c_accepted.proofs.Moving.{Knows, Moves, moves_not, knows_on, walks_then, walks_node, walks_judged, first_broken, second_broken, past_moves, past_broken, past_front, members_seen}
use Rattle.c_accepted.proofs.ClosingBodies.{AllNameEffects, append_names, zeros_name, member_zeros_name, one_names}
use Rattle.c_accepted.proofs.Sizing.{KnownBy, known_on, WholePlace}
use Rattle.c_accepted.proofs.SizingNodes.{expressions_whole}

-- each global is named whole
abbrev pub WholeEffects : List Variable → Around → List Effect → Type 0
WholeEffects variables around = AllNameEffects (IsWhole variables around.structs around.layout) (λ offset size. Unit {0}) (λ x. Unit {0})

-- both go through it alike, if they know the type that it fills; no struct comes with it, and it names each global whole
pub record FillAlike (b : c.Filling × Filling) : Type 0 where
  pub keeps : (filled : Filled) (target : Option CType) (state : State) → (b.0 filled target state).state.scope.structs ≡ state.scope.structs
  pub moves : (filled : Filled) (target : CType) (state : State) (around : Around) → Knows around state → (l : Lvalue) (offset : ℕ) → (b.0 filled (Some target) state).broken ≡ []
      → Moves around state (b.0 filled (Some target) state).state 0 (λ r. (b.1 around target l offset r).after)
  pub names : (filled : Filled) (target : CType) (state : State) (around : Around) → Knows around state → (l : Lvalue) (offset : ℕ) → (b.0 filled (Some target) state).broken ≡ []
      → (variables : List Variable) → KnownBy variables state.scope.variables → WholePlace variables around l → (r : Reached) → Front (meanings_of (b.0 filled (Some target) state).state.notes) around.meanings → IsAt r (meanings_of state.notes) → WholeEffects variables around (b.1 around target l offset r).effects

-- ---- one expression

pub filling_broken : (b : Bool) (s : Seen) → (filling b s).broken ≡ [] → s.broken ≡ []
unfolding unevaluated
filling_broken true s h = h
filling_broken false s h = h

pub filling_goes : (b : Bool) (s : Seen) (p : Around → Reached → Reached) → Goes s.after p → Goes (filling b s).after p
unfolding unevaluated
filling_goes true s p g = record { on = λ n. g.on n; still = λ n. g.still n; at = λ n around r w h. g.at n around r w h }
filling_goes false s p g = g

-- texts are no part of what is noted
pub same_place : (type : CType) (before after : Reached) (m : Meanings) → IsAt after m → IsAt (after_one type before after) m
same_place Void before after m h = h
same_place (Int kind) before after m h = h
same_place (Pointer target) before after m h = h
same_place (Array element count) before after m h = record { kind = h.kind; name = h.name; declaration = h.declaration }
same_place (Struct number) before after m h = h

-- the words of globals are no part of what is noted either
pub word_moves : (around : Around) (word : Option ℕ) (state : State) → Moves around state (notes_word word state).state 0 (λ r. r)
unfolding notes_word
word_moves around None state = moves_not around state
word_moves around (Some word) state = record {
  grows = record { on = front_itself (meanings_of state.notes); structs = refl; functions = refl; variables = refl; types = []; many = refl; made = sym (nothing_more state.scope.made); declared = sym (nothing_more state.notes.declared) };
  at = λ r w at. at;
}

pub one_moves : (x : Expr) (place : Place) (filled : Filled) (target : CType) (state : State) (around : Around) → (one filled (Some target) place x state).broken ≡ []
    → Moves around state (one filled (Some target) place x state).state 0 (λ r. after_one target r (expression x around r).after)
one_moves x place filled target state around h =
    let s = seen_in state x in let fills = fills_target (Some target) s.typed in let judge = at_node place (one_kinds filled (Some target) s.typed) in let word = one_word filled (Some target) s.typed in
    let none = first_broken (filling_walk (Some target) x) (judge then notes_word word) state h in
    let alike = expressions_alike x false state.scope (filling_broken fills s (past_broken (filling fills s) state none)) in
    let go = past_moves around (filling fills s) state (λ around r. (expression x around r).after) (filling_goes fills s _ alike.goes) in let mid = (filling_walk (Some target) x state).state in
    walks_then around (filling_walk (Some target) x) (judge then notes_word word) state 0 0 (λ r. after_one target r (expression x around r).after) (λ r. r) record {
      grows = go.grows;
      at = λ r w at. same_place target r (expression x around r).after _ (go.at r w at);
    } (walks_then around judge (notes_word word) mid 0 0 (λ r. r) (λ r. r) (walks_node around place (one_kinds filled (Some target) s.typed) mid) (word_moves around word (judge mid).state))

pub filling_front : (b : Bool) (s : Seen) (n : Notes) (w : Meanings) → Front (meanings_of ((filling b s).after n)) w → Front (meanings_of (s.after n)) w
unfolding unevaluated
filling_front true s n w f = f
filling_front false s n w f = f

pub one_wholes : (x : Expr) (place : Place) (filled : Filled) (target : CType) (state : State) (around : Around) (l : Lvalue) (offset : ℕ) → (one filled (Some target) place x state).broken ≡ []
    → (variables : List Variable) → KnownBy variables state.scope.variables → WholePlace variables around l → (r : Reached) → Front (meanings_of (one filled (Some target) place x state).state.notes) around.meanings → IsAt r (meanings_of state.notes) → WholeEffects variables around (one_filled around target place l offset (expression x around r))
unfolding ◌then◌
one_wholes x place filled target state around l offset h variables k whole r w at =
    let s = seen_in state x in let fills = fills_target (Some target) s.typed in let judge = at_node place (one_kinds filled (Some target) s.typed) in let word = one_word filled (Some target) s.typed in
    let none = first_broken (filling_walk (Some target) x) (judge then notes_word word) state h in
    let free = filling_broken fills s (past_broken (filling fills s) state none) in let mid = (filling_walk (Some target) x state).state in
    let later = walks_then around judge (notes_word word) mid 0 0 (λ r. r) (λ r. r) (walks_node around place (one_kinds filled (Some target) s.typed) mid) (word_moves around word (judge mid).state) in
    let front = filling_front fills s state.notes around.meanings (past_front (filling fills s) state around.meanings (front_then _ _ _ later.grows.on w)) in
    one_names _ _ _ around target place l offset (expression x around r) whole (expressions_whole x false state.scope free variables k state.notes around r front at)

-- ---- a list in braces

abbrev pub FillA : Type 0
FillA = (Place → c.Filling) × (Place → Filling)

abbrev pub FillB : Type 0
FillB = c.Filling × Filling

abbrev pub fill_both : InitKind-F FillA FillB → FillA
fill_both y = (c.init_step (nf.map-InitKind FillA FillB (Place → c.Filling) c.Filling (λ a. a.0) (λ b. b.0) y), init_step expression (nf.map-InitKind FillA FillB (Place → Filling) Filling (λ a. a.1) (λ b. b.1) y))

abbrev pub fill_struct : Init-F FillA FillB → FillB
fill_struct x = (x.kind.0 x.place, x.kind.1 x.place)

abbrev pub FillAlikeAt : FillA → Type 0
FillAlikeAt a = (place : Place) → FillAlike (a.0 place, a.1 place)

abbrev pub PartsA : Type 0
PartsA = InitA FillA FillB fill_both fill_struct FillAlikeAt FillAlike

abbrev pub PartsB : Type 0
PartsB = InitB FillA FillB fill_both fill_struct FillAlikeAt FillAlike

abbrev pub checks : List PartsB → List c.Filling
checks all = map (λ b. b.0) (map (λ y. y.0) all)

abbrev pub fills : List PartsB → List Filling
fills all = map (λ b. b.1) (map (λ y. y.0) all)

-- the first part, and the others behind it
pub part_first : (x : PartsB) (more : List PartsB) (filled : Filled) (target : CType) (at : ℕ) (type : CType) (state : State) (around : Around) → Knows around state → (l : Lvalue) (offset : ℕ)
    → part_of state.scope.structs (Some target) at ≡ Some type → (parts filled (Some target) at (checks (x ∷ more)) state).broken ≡ []
    → Moves around state (part_walk filled (Some target) at x.0.0 state).state 0 (λ r. (x.0.1 around type l offset r).after)
part_first x more filled target at type state around knows l offset is h =
    let none = first_broken (part_walk filled (Some target) at x.0.0) (parts filled (Some target) (at + 1) (checks more)) state h in
    subst (λ o. (x.0.0 (part filled) o state).broken ≡ [] → Moves around state (x.0.0 (part filled) o state).state 0 (λ r. (x.0.1 around type l offset r).after)) (sym is)
    (x.1.moves (part filled) type state around knows l offset) none

pub elements_move : (all : List PartsB) (filled : Filled) (place : Place) (element : CType) (whole at count size : ℕ) (state : State) (around : Around) → Knows around state → (l : Lvalue) (offset : ℕ)
    → at + count ≡ whole → length all ≤ count → (parts filled (Some (Array element whole)) at (checks all) state).broken ≡ []
    → Moves around state (parts filled (Some (Array element whole)) at (checks all) state).state 0 (λ r. (elements_filled (fills all) around element place size count l offset r).after)
elements_move [] filled place element whole at count size state around knows l offset e le h = moves_not around state
elements_move (x ∷ more) filled place element whole at zero size state around knows l offset e le h = absurd (omega arith)
elements_move (x ∷ more) filled place element whole at (suc n) size state around knows l offset e le h =
    let lt : nat_lt at whole ≡ true = grind (arith, nat_tests) in
    let is : part_of state.scope.structs (Some (Array element whole)) at ≡ Some element = ap (λ b. cond b (Some element) None) lt in
    let first = part_first x more filled (Array element whole) at element state around knows l offset is h in
    let mid = (part_walk filled (Some (Array element whole)) at x.0.0 state).state in
    let rest = elements_move more filled place element whole (at + 1) n size mid around (knows_on around state mid 0 knows first.grows) l (offset + size) (omega arith) (omega arith)
    (second_broken (part_walk filled (Some (Array element whole)) at x.0.0) (parts filled (Some (Array element whole)) (at + 1) (checks more)) state h) in
    walks_then around (part_walk filled (Some (Array element whole)) at x.0.0) (parts filled (Some (Array element whole)) (at + 1) (checks more)) state 0 0 _ _ first rest

-- the types of the members from a place on
pub record RestIs (members : List Member) (at : ℕ) (types : List CType) : Type 0 where
  pub before : List CType
  pub is : kinds_in members ≡ before ++ types
  pub at_end : length before ≡ at

pub member_there : (members : List Member) (before types : List CType) (t : CType) (at : ℕ) → kinds_in members ≡ before ++ (t ∷ types) → length before ≡ at → member_kind (slice_get members at) ≡ Some t
member_there [] [] types t at e l = cc
member_there [] (b ∷ before) types t at e l = cc
member_there (m ∷ members) [] types t zero e l = cc
member_there (m ∷ members) [] types t (suc at) e l = absurd (omega arith)
member_there (m ∷ members) (b ∷ before) types t zero e l = absurd (omega arith)
member_there (m ∷ members) (b ∷ before) types t (suc at) e l = (let rest : kinds_in members ≡ before ++ (t ∷ types) = cc in let end : length before ≡ at = omega arith in member_there members before types t at rest end)

pub rest_on : (members : List Member) (at : ℕ) (t : CType) (types : List CType) → RestIs members at (t ∷ types) → RestIs members (at + 1) types
rest_on members at t types h = record { before = h.before ++ (t ∷ []); is = h.is ∙ sym (append_assoc h.before (t ∷ []) types); at_end = omega (arith, length-append h.before (t ∷ []), h.at_end) }

pub members_move : (all : List PartsB) (filled : Filled) (place : Place) (number at : ℕ) (types : List CType) (offsets : List ℕ) (state : State) (around : Around) → Knows around state → (l : Lvalue) (offset : ℕ)
    → RestIs (struct_members state.scope.structs number) at types → length types ≡ length offsets → length all ≤ length types → (parts filled (Some (Struct number)) at (checks all) state).broken ≡ []
    → Moves around state (parts filled (Some (Struct number)) at (checks all) state).state 0 (λ r. (members_filled (fills all) around place types offsets l offset r).after)
members_move [] filled place number at types offsets state around knows l offset rest e le h = moves_not around state
members_move (x ∷ more) filled place number at [] offsets state around knows l offset rest e le h = absurd (omega arith)
members_move (x ∷ more) filled place number at (t ∷ ts) [] state around knows l offset rest e le h = absurd (omega arith)
members_move (x ∷ more) filled place number at (t ∷ ts) (o ∷ os) state around knows l offset rest e le h =
    let first = part_first x more filled (Struct number) at t state around knows l (offset + o) (member_there (struct_members state.scope.structs number) rest.before ts t at rest.is rest.at_end) h in
    let mid = (part_walk filled (Some (Struct number)) at x.0.0 state).state in
    let there = subst (λ structs. RestIs (struct_members structs number) (at + 1) ts) (sym first.grows.structs) (rest_on (struct_members state.scope.structs number) at t ts rest) in
    let others = members_move more filled place number (at + 1) ts os mid around (knows_on around state mid 0 knows first.grows) l offset there (omega arith) (omega arith)
    (second_broken (part_walk filled (Some (Struct number)) at x.0.0) (parts filled (Some (Struct number)) (at + 1) (checks more)) state h) in
    walks_then around (part_walk filled (Some (Struct number)) at x.0.0) (parts filled (Some (Struct number)) (at + 1) (checks more)) state 0 0 _ _ first others

-- ---- a list fills an array or a struct

pub as_many : {X Y : Type 0} (f : X → Y) (xs : List X) → length (map f xs) ≡ length xs
as_many f [] = refl
as_many f (x ∷ xs) = ap suc (as_many f xs)

pub as_many_offsets : (layouts : List Layout) (free : ℕ) → length (offsets_from free layouts) ≡ length layouts
as_many_offsets [] free = refl
as_many_offsets (m ∷ ms) free = ap suc (as_many_offsets ms (next_multiple free m.align + m.size))

pub as_many_fills : (all : List PartsB) → length (checks all) ≡ length all
as_many_fills [] = refl
as_many_fills (x ∷ all) = ap suc (as_many_fills all)

pub judged_broken : (place : Place) (kinds : List _) (state : State) → (at_node place kinds state).broken ≡ [] → kinds ≡ []
unfolding at_node
judged_broken place kinds state h = none_at place kinds h

pub uncrowded : (kind : CType) (state : State) (place : Place) (count : ℕ) → (many_judged (Some kind) count place state).broken ≡ [] → is_crowded state.scope.structs (outer_of kind) count ≡ false
uncrowded kind state place count h = not_broken BadType _ (judged_broken place (many_kinds state.scope.structs (Some kind) count) state h)

pub parts_grow : (all : List PartsB) (filled : Filled) (place : Place) (target : CType) (state : State) (around : Around) → Knows around state → (l : Lvalue) (offset : ℕ)
    → is_crowded state.scope.structs (outer_of target) (length all) ≡ false → (parts filled (Some target) 0 (checks all) state).broken ≡ []
    → Moves around state (parts filled (Some target) 0 (checks all) state).state 0 (λ r. (many_filled (fills all) place around target l offset r).after)
parts_grow all filled place Void state around knows l offset few h = cc
parts_grow all filled place (Int kind) state around knows l offset few h = cc
parts_grow all filled place (Pointer target) state around knows l offset few h = cc
parts_grow all filled place (Array element count) state around knows l offset few h =
    elements_move all filled place element count 0 count (size_in around.structs element) state around knows l offset (omega arith) (not_above count (length all) few) h
parts_grow all filled place (Struct number) state around knows l offset few h =
    let types = members_of around.structs number in let seen = ap (λ structs. members_of structs number) knows ∙ members_seen state.scope.structs number in
    let many : length types ≡ length (struct_members state.scope.structs number) = ap length seen ∙ as_many (λ (m : Member). m.kind) (struct_members state.scope.structs number) in
    let offsets = offsets_from 0 (map (layout_of around.structs) types) in
    let placed : length types ≡ length offsets = sym (as_many_offsets (map (layout_of around.structs) types) 0 ∙ as_many (layout_of around.structs) types) in
    members_move all filled place number 0 types offsets state around knows l offset record { before = []; is = sym seen; at_end = refl } placed
    (omega (arith, many, not_above (length (struct_members state.scope.structs number)) (length all) few)) h

-- the structs after the parts are those before
pub parts_keep : (all : List PartsB) (filled : Filled) (target : Option CType) (at : ℕ) (state : State) → (parts filled target at (checks all) state).state.scope.structs ≡ state.scope.structs
unfolding ◌then◌
parts_keep [] filled target at state = refl
parts_keep (x ∷ more) filled target at state = parts_keep more filled target (at + 1) (x.0.0 (part filled) (part_of state.scope.structs target at) state).state ∙ x.1.keeps (part filled) (part_of state.scope.structs target at) state

pub one_keeps : (x : Expr) (place : Place) (filled : Filled) (target : Option CType) (state : State) → (one filled target place x state).state.scope.structs ≡ state.scope.structs
unfolding ◌then◌ past at_node notes_word
one_keeps x place filled target state = refl

pub many_keeps : (all : List PartsB) (place : Place) (filled : Filled) (target : Option CType) (state : State) → ((parts filled target 0 (checks all) then many_judged target (length (checks all)) place) state).state.scope.structs ≡ state.scope.structs
unfolding ◌then◌ at_node
many_keeps all place filled target state = parts_keep all filled target 0 state

pub crowded_before : (all : List PartsB) (filled : Filled) (place : Place) (target : CType) (state : State)
    → ((parts filled (Some target) 0 (checks all) then many_judged (Some target) (length (checks all)) place) state).broken ≡ [] → is_crowded state.scope.structs (outer_of target) (length all) ≡ false
crowded_before all filled place target state h =
    let walk = parts filled (Some target) 0 (checks all) in
    let there = uncrowded target (walk state).state place (length (checks all)) (second_broken walk (many_judged (Some target) (length (checks all)) place) state h) in
    subst (λ n. is_crowded state.scope.structs (outer_of target) n ≡ false) (as_many_fills all) (subst (λ structs. is_crowded structs (outer_of target) (length (checks all)) ≡ false) (parts_keep all filled (Some target) 0 state) there)

pub many_moves : (all : List PartsB) (place : Place) (filled : Filled) (target : CType) (state : State) (around : Around) → Knows around state → (l : Lvalue) (offset : ℕ)
    → ((parts filled (Some target) 0 (checks all) then many_judged (Some target) (length (checks all)) place) state).broken ≡ []
    → Moves around state ((parts filled (Some target) 0 (checks all) then many_judged (Some target) (length (checks all)) place) state).state 0 (λ r. (many_filled (fills all) place around target l offset r).after)
many_moves all place filled target state around knows l offset h = let walk = parts filled (Some target) 0 (checks all) in
    walks_judged around walk place (λ st. many_kinds st.scope.structs (Some target) (length (checks all))) state 0 _
    (parts_grow all filled place target state around knows l offset (crowded_before all filled place target state h) (first_broken walk (many_judged (Some target) (length (checks all)) place) state h))

-- ---- the globals that it names

pub part_wholes : (x : PartsB) (more : List PartsB) (filled : Filled) (target : CType) (at : ℕ) (type : CType) (state : State) (around : Around) → Knows around state → (l : Lvalue) (offset : ℕ)
    → part_of state.scope.structs (Some target) at ≡ Some type → (parts filled (Some target) at (checks (x ∷ more)) state).broken ≡ []
    → (variables : List Variable) → KnownBy variables state.scope.variables → WholePlace variables around l → (r : Reached) → Front (meanings_of (part_walk filled (Some target) at x.0.0 state).state.notes) around.meanings → IsAt r (meanings_of state.notes) → WholeEffects variables around (x.0.1 around type l offset r).effects
part_wholes x more filled target at type state around knows l offset is h variables k whole r w here =
    let none = first_broken (part_walk filled (Some target) at x.0.0) (parts filled (Some target) (at + 1) (checks more)) state h in
    subst (λ o. (x.0.0 (part filled) o state).broken ≡ [] → Front (meanings_of (x.0.0 (part filled) o state).state.notes) around.meanings → WholeEffects variables around (x.0.1 around type l offset r).effects) (sym is)
    (λ none w. x.1.names (part filled) type state around knows l offset none variables k whole r w here) none w

pub elements_wholes : (all : List PartsB) (filled : Filled) (place : Place) (element : CType) (many at count size : ℕ) (state : State) (around : Around) → Knows around state → (l : Lvalue) (offset : ℕ)
    → at + count ≡ many → length all ≤ count → (parts filled (Some (Array element many)) at (checks all) state).broken ≡ []
    → (variables : List Variable) → KnownBy variables state.scope.variables → WholePlace variables around l → (r : Reached) → Front (meanings_of (parts filled (Some (Array element many)) at (checks all) state).state.notes) around.meanings → IsAt r (meanings_of state.notes) → WholeEffects variables around (elements_filled (fills all) around element place size count l offset r).effects
unfolding ◌then◌
elements_wholes [] filled place element many at count size state around knows l offset e le h variables k whole r w here = zeros_name _ _ _ (map (scalar_at offset) (scalars_of around.structs (Array element count))) place l whole
elements_wholes (x ∷ more) filled place element many at zero size state around knows l offset e le h variables k whole r w here = absurd (omega arith)
elements_wholes (x ∷ more) filled place element many at (suc n) size state around knows l offset e le h variables k whole r w here =
    let lt : nat_lt at many ≡ true = grind (arith, nat_tests) in
    let is : part_of state.scope.structs (Some (Array element many)) at ≡ Some element = ap (λ b. cond b (Some element) None) lt in
    let first = part_first x more filled (Array element many) at element state around knows l offset is h in
    let mid = (part_walk filled (Some (Array element many)) at x.0.0 state).state in
    let none = second_broken (part_walk filled (Some (Array element many)) at x.0.0) (parts filled (Some (Array element many)) (at + 1) (checks more)) state h in
    let knows1 = knows_on around state mid 0 knows first.grows in
    let rest = elements_move more filled place element many (at + 1) n size mid around knows1 l (offset + size) (omega arith) (omega arith) none in
    let w0 = front_then _ _ _ rest.grows.on w in
    append_names _ _ _ (x.0.1 around element l offset r).effects _ (part_wholes x more filled (Array element many) at element state around knows l offset is h variables k whole r w0 here)
    (elements_wholes more filled place element many (at + 1) n size mid around knows1 l (offset + size) (omega arith) (omega arith) none variables (known_on variables _ _ first.grows.variables k) whole (x.0.1 around element l offset r).after w (first.at r w0 here))

pub members_wholes : (all : List PartsB) (filled : Filled) (place : Place) (number at : ℕ) (types : List CType) (offsets : List ℕ) (state : State) (around : Around) → Knows around state → (l : Lvalue) (offset : ℕ)
    → RestIs (struct_members state.scope.structs number) at types → length types ≡ length offsets → length all ≤ length types → (parts filled (Some (Struct number)) at (checks all) state).broken ≡ []
    → (variables : List Variable) → KnownBy variables state.scope.variables → WholePlace variables around l → (r : Reached) → Front (meanings_of (parts filled (Some (Struct number)) at (checks all) state).state.notes) around.meanings → IsAt r (meanings_of state.notes) → WholeEffects variables around (members_filled (fills all) around place types offsets l offset r).effects
unfolding ◌then◌
members_wholes [] filled place number at types offsets state around knows l offset rest e le h variables k whole r w here = member_zeros_name _ _ _ around.structs place types offsets l offset whole
members_wholes (x ∷ more) filled place number at [] offsets state around knows l offset rest e le h variables k whole r w here = absurd (omega arith)
members_wholes (x ∷ more) filled place number at (t ∷ ts) [] state around knows l offset rest e le h variables k whole r w here = absurd (omega arith)
members_wholes (x ∷ more) filled place number at (t ∷ ts) (o ∷ os) state around knows l offset rest e le h variables k whole r w here =
    let is = member_there (struct_members state.scope.structs number) rest.before ts t at rest.is rest.at_end in
    let first = part_first x more filled (Struct number) at t state around knows l (offset + o) is h in
    let mid = (part_walk filled (Some (Struct number)) at x.0.0 state).state in
    let there = subst (λ structs. RestIs (struct_members structs number) (at + 1) ts) (sym first.grows.structs) (rest_on (struct_members state.scope.structs number) at t ts rest) in
    let none = second_broken (part_walk filled (Some (Struct number)) at x.0.0) (parts filled (Some (Struct number)) (at + 1) (checks more)) state h in
    let knows1 = knows_on around state mid 0 knows first.grows in
    let others = members_move more filled place number (at + 1) ts os mid around knows1 l offset there (omega arith) (omega arith) none in
    let w0 = front_then _ _ _ others.grows.on w in
    append_names _ _ _ (x.0.1 around t l (offset + o) r).effects _ (part_wholes x more filled (Struct number) at t state around knows l (offset + o) is h variables k whole r w0 here)
    (members_wholes more filled place number (at + 1) ts os mid around knows1 l offset there (omega arith) (omega arith) none variables (known_on variables _ _ first.grows.variables k) whole (x.0.1 around t l (offset + o) r).after w (first.at r w0 here))

pub parts_wholes : (all : List PartsB) (filled : Filled) (place : Place) (target : CType) (state : State) (around : Around) → Knows around state → (l : Lvalue) (offset : ℕ)
    → is_crowded state.scope.structs (outer_of target) (length all) ≡ false → (parts filled (Some target) 0 (checks all) state).broken ≡ []
    → (variables : List Variable) → KnownBy variables state.scope.variables → WholePlace variables around l → (r : Reached) → Front (meanings_of (parts filled (Some target) 0 (checks all) state).state.notes) around.meanings → IsAt r (meanings_of state.notes) → WholeEffects variables around (many_filled (fills all) place around target l offset r).effects
parts_wholes all filled place Void state around knows l offset few h variables k whole r w here = tt
parts_wholes all filled place (Int kind) state around knows l offset few h variables k whole r w here = tt
parts_wholes all filled place (Pointer target) state around knows l offset few h variables k whole r w here = tt
parts_wholes all filled place (Array element count) state around knows l offset few h variables k whole r w here =
    elements_wholes all filled place element count 0 count (size_in around.structs element) state around knows l offset (omega arith) (not_above count (length all) few) h variables k whole r w here
parts_wholes all filled place (Struct number) state around knows l offset few h variables k whole r w here =
    let types = members_of around.structs number in let seen = ap (λ structs. members_of structs number) knows ∙ members_seen state.scope.structs number in
    let many : length types ≡ length (struct_members state.scope.structs number) = ap length seen ∙ as_many (λ (m : Member). m.kind) (struct_members state.scope.structs number) in
    let offsets = offsets_from 0 (map (layout_of around.structs) types) in
    let placed : length types ≡ length offsets = sym (as_many_offsets (map (layout_of around.structs) types) 0 ∙ as_many (layout_of around.structs) types) in
    members_wholes all filled place number 0 types offsets state around knows l offset record { before = []; is = sym seen; at_end = refl } placed
    (omega (arith, many, not_above (length (struct_members state.scope.structs number)) (length all) few)) h variables k whole r w here

pub many_wholes : (all : List PartsB) (place : Place) (filled : Filled) (target : CType) (state : State) (around : Around) → Knows around state → (l : Lvalue) (offset : ℕ)
    → ((parts filled (Some target) 0 (checks all) then many_judged (Some target) (length (checks all)) place) state).broken ≡ []
    → (variables : List Variable) → KnownBy variables state.scope.variables → WholePlace variables around l → (r : Reached) → Front (meanings_of ((parts filled (Some target) 0 (checks all) then many_judged (Some target) (length (checks all)) place) state).state.notes) around.meanings → IsAt r (meanings_of state.notes)
    → WholeEffects variables around (many_filled (fills all) place around target l offset r).effects
unfolding ◌then◌ at_node
many_wholes all place filled target state around knows l offset h variables k whole r w here = let walk = parts filled (Some target) 0 (checks all) in
    parts_wholes all filled place target state around knows l offset (crowded_before all filled place target state h) (first_broken walk (many_judged (Some target) (length (checks all)) place) state h) variables k whole r w here

pub every_fill : (y : InitKind-F PartsA PartsB) → FillAlikeAt (fill_both (bare_inits FillA FillB fill_both fill_struct FillAlikeAt FillAlike y))
every_fill (i.One x) place = record { keeps = one_keeps x place; moves = λ filled target state around knows l offset h. one_moves x place filled target state around h; names = λ filled target state around knows l offset h. one_wholes x place filled target state around l offset h }
every_fill (i.Many all) place = record { keeps = many_keeps all place; moves = many_moves all place; names = many_wholes all place }

abbrev pub filled_both : Init → FillB
filled_both = fold-Init FillA FillB fill_both fill_struct

pub checks_same : (x : Init) → (filled_both x).0 ≡ c.fills x
checks_same x = inits_fused FillA FillB (Place → c.Filling) c.Filling fill_both fill_struct c.init_step (λ x. x.kind x.place) (λ a. a.0) (λ b. b.0) (λ y. refl) (λ y. refl) x

pub fills_same : (x : Init) → (filled_both x).1 ≡ initialiser expression x
fills_same x = inits_fused FillA FillB (Place → Filling) Filling fill_both fill_struct (init_step expression) (λ x. x.kind x.place) (λ a. a.1) (λ b. b.1) (λ y. refl) (λ y. refl) x

pub initialisers_alike : (x : Init) → FillAlike (c.fills x, initialiser expression x)
initialisers_alike x = subst (λ check. FillAlike (check, initialiser expression x)) (checks_same x) (subst (λ fill. FillAlike ((filled_both x).0, fill)) (fills_same x)
    (every_inits FillA FillB fill_both fill_struct FillAlikeAt FillAlike every_fill (λ y. y.kind.1 y.place) x))
