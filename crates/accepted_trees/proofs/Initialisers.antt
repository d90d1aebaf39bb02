-- An initialiser without broken rules is within the limits of code.
use Rattle.std.proofs.Common.{◌≡◌, ℕ, zero, suc, ◌+◌, ◌*◌, ◌≤◌, refl, sym, ap, ◌∙◌, subst, Bool, true, false, ◌&&◌, not, nat_lt, cond, List, [], ◌∷◌, map, length, arith}
use Rattle.std.proofs.Math.Nat.{mul-suc}
use Rattle.std.specs.Prelude.{Option, None, Some}
use Rattle.std.proofs.lemmas.Bool.Decides.{nat_tests}
use Rattle.fat_ir.specs.Step.{Located}
use Rattle.mx_base.specs.declared.places.Place.{Place}
use Rattle.c_tree.specs.declared.tree.Expr.{Expr}
use Rattle.c_tree.specs.declared.tree.Init.{Init, Init-F, fold-Init}
use Rattle.c_tree.specs.declared.tree.InitKind.{InitKind-F}
use Rattle.c_tree.specs.declared.tree.InitKind.TheFolds as nf
use Rattle.c_tree.specs.declared.tree.InitKind.TheOpen as i
use Rattle.c_tree.specs.Formed.{stands, is_empty, every, formed_expr, init_step as formed_step, formed_init}
use Rattle.c_types.specs.Types.{CType, Void, Int, Pointer, Array, Struct, members_of}
use Rattle.c_types.specs.Layouts.{layout_of, offsets_from}
use Rattle.c_check_rules.specs.declared.names.Member.{Member}
use Rattle.c_check_rules.specs.declared.names.Scope.{Scope}
use Rattle.c_check_rules.specs.Kinds.{outer_of}
use Rattle.c_check_statements.specs.declared.initialisers.Filled.{Filled}
use Rattle.c_check_statements.specs.declared.state.State.{State}
use Rattle.c_check_statements.specs.Initialisers.{filling, fills_target, filling_walk, one_kinds, one_word, notes_word, one, is_crowded, many_judged, struct_members, part, part_of, part_walk, parts}
use Rattle.c_check_statements.specs.Initialisers as c
use Rattle.c_check_statements.specs.Walks.{◌then◌, at_node, seen_in}
use Rattle.bounds_plan.specs.laws.Laws.{most_bytes}
use Rattle.bounds_plan.specs.elaboration.Source.{Meanings, Reached, Around}
use Rattle.bounds_plan.specs.elaboration.Types.{size_in}
use Rattle.bounds_plan.specs.elaboration.Places.{Lvalue}
use Rattle.bounds_plan.specs.elaboration.Expressions.{expression}
use Rattle.bounds_plan.specs.elaboration.Initialisers.{Filling, one_filled, elements_filled, members_filled, many_filled, initialiser}
use Rattle.c_tree.proofs.Inductions.{InitA, InitB, bare_inits, bare_inits_struct, every_inits, inits_fused}
use Rattle.c_accepted.specs.Alike.{meanings_of, signatures_seen, IsAt, Front}
use Rattle.c_accepted.proofs.Empty.{not_above}
use Rattle.c_accepted.proofs.Going.{front_then}
use Rattle.c_accepted.proofs.Heads.{both_true}
use Rattle.c_accepted.proofs.Moving.{Knows, Moves, knows_on, walks_then, walks_node, first_broken, second_broken, past_broken, past_front, members_seen}
use Rattle.c_accepted.proofs.Filling.{FillAlike, FillA, FillB, fill_both, fill_struct, FillAlikeAt, PartsB, RestIs, member_there, rest_on, as_many, as_many_offsets, filling_broken, filling_front, word_moves, elements_move, members_move, crowded_before, every_fill, filled_both, checks_same, fills_same}
use Rattle.accepted_trees.specs.Limits.{TypeWithin, TypesWithin}
use Rattle.accepted_trees.proofs.Expressions.{PlaceIn, Surrounds, expressions_within}
use Rattle.accepted_trees.proofs.ClosingBodies.{EndBy, members_end, AllEffectsWithin, append_within, zeros_within, member_zeros_within, one_within}

-- ---- the two folds beside whether the tree is formed

abbrev FormedA : Type 0
FormedA = FillA × Bool

abbrev FormedB : Type 0
FormedB = FillB × Bool

abbrev step_formed : InitKind-F FormedA FormedB → FormedA
step_formed y = (fill_both (nf.map-InitKind FormedA FormedB FillA FillB (λ a. a.0) (λ b. b.0) y), formed_step (nf.map-InitKind FormedA FormedB Bool Bool (λ a. a.1) (λ b. b.1) y))

abbrev struct_formed : Init-F FormedA FormedB → FormedB
struct_formed x = ((x.kind.0.0 x.place, x.kind.0.1 x.place), stands x.place && x.kind.1)

module _ (located : ℕ → Located) (pointer : Bool) (returns : ℕ → Bool) (takes : ℕ → List (ℕ × Option ℕ) → Bool) where
  -- the functions that the checker knows are the same
  pub surrounds_on : (m : Meanings) (old new : Scope) (around : Around) → new.functions ≡ old.functions → Surrounds located pointer returns takes m old around → Surrounds located pointer returns takes m new around
  surrounds_on m old new around e k = record {
    front = k.front;
    types = k.types;
    within = k.within;
    few = subst (λ fs. length fs ≤ 4294967295) (sym e) k.few;
    signatures = k.signatures ∙ ap signatures_seen (sym e);
  }

  -- what an initialiser does keeps to the limits, where its target ends within the largest size of a type
  abbrev pub FillsWithin : FillB → Type 0
  FillsWithin b = (filled : Filled) (target : CType) (state : State) (around : Around) → Knows around state → (l : Lvalue) (offset : ℕ) → (b.0 filled (Some target) state).broken ≡ []
      → (m : Meanings) → Surrounds located pointer returns takes m state.scope around → PlaceIn located pointer returns takes l → TypeWithin around.structs target → offset + size_in around.structs target ≤ most_bytes
      → (r : Reached) → Front (meanings_of (b.0 filled (Some target) state).state.notes) m → IsAt r (meanings_of state.notes) → AllEffectsWithin located pointer returns takes (b.1 around target l offset r).effects

  abbrev Good : FormedB → Type 0
  Good b = FillAlike b.0 × (b.1 ≡ true → FillsWithin b.0)

  abbrev GoodAt : FormedA → Type 0
  GoodAt a = (place : Place) → FillAlike (a.0.0 place, a.0.1 place) × (a.1 ≡ true → FillsWithin (a.0.0 place, a.0.1 place))

  abbrev GoodA : Type 0
  GoodA = InitA FormedA FormedB step_formed struct_formed GoodAt Good

  abbrev GoodB : Type 0
  GoodB = InitB FormedA FormedB step_formed struct_formed GoodAt Good

  abbrev bare : InitKind-F GoodA GoodB → InitKind-F FormedA FormedB
  bare = bare_inits FormedA FormedB step_formed struct_formed GoodAt Good

  abbrev weak : GoodB → PartsB
  weak y = (y.0.0, y.1.0)

  abbrev pairs : List GoodB → List FillB
  pairs all = map (λ b. b.0) (map (λ y. y.0) all)

  abbrev checks : List GoodB → List c.Filling
  checks all = map (λ b. b.0) (pairs all)

  abbrev fills : List GoodB → List Filling
  fills all = map (λ b. b.1) (pairs all)

  abbrev formeds : List GoodB → List Bool
  formeds all = map (λ b. b.1) (map (λ y. y.0) all)

  weak_same : (all : List GoodB) → map (λ y. y.0) (map weak all) ≡ pairs all
  weak_same [] = refl
  weak_same (a ∷ more) = ap (λ bs. a.0.0 ∷ bs) (weak_same more)

  -- ---- one expression

  one_in : (x : Expr) (place : Place) (filled : Filled) (target : CType) (state : State) (around : Around) (l : Lvalue) (offset : ℕ) → formed_expr x ≡ true → (one filled (Some target) place x state).broken ≡ []
      → (m : Meanings) → Surrounds located pointer returns takes m state.scope around → PlaceIn located pointer returns takes l → TypeWithin around.structs target → offset + size_in around.structs target ≤ most_bytes
      → (r : Reached) → Front (meanings_of (one filled (Some target) place x state).state.notes) m → IsAt r (meanings_of state.notes) → AllEffectsWithin located pointer returns takes (one_filled around target place l offset (expression x around r))
  unfolding ◌then◌
  one_in x place filled target state around l offset formed h m k stands_there t le r w at =
      let s = seen_in state x in let takes_text = fills_target (Some target) s.typed in let judge = at_node place (one_kinds filled (Some target) s.typed) in let word = one_word filled (Some target) s.typed in
      let none = first_broken (filling_walk (Some target) x) (judge then notes_word word) state h in
      let free = filling_broken takes_text s (past_broken (filling takes_text s) state none) in let mid = (filling_walk (Some target) x state).state in
      let later = walks_then around judge (notes_word word) mid 0 0 (λ r. r) (λ r. r) (walks_node around place (one_kinds filled (Some target) s.typed) mid) (word_moves around word (judge mid).state) in
      let front = filling_front takes_text s state.notes m (past_front (filling takes_text s) state m (front_then _ _ _ later.grows.on w)) in
      one_within located pointer returns takes around target place l offset (expression x around r) t le stands_there (expressions_within located pointer returns takes x formed false state.scope free m around k state.notes r front at)

  -- ---- parts

  first_moves : (x : GoodB) (filled : Filled) (target : CType) (at : ℕ) (type : CType) (state : State) (around : Around) → Knows around state → (l : Lvalue) (offset : ℕ)
      → part_of state.scope.structs (Some target) at ≡ Some type → (part_walk filled (Some target) at x.0.0.0 state).broken ≡ []
      → Moves around state (part_walk filled (Some target) at x.0.0.0 state).state 0 (λ r. (x.0.0.1 around type l offset r).after)
  first_moves x filled target at type state around knows l offset is none =
      subst (λ o. (x.0.0.0 (part filled) o state).broken ≡ [] → Moves around state (x.0.0.0 (part filled) o state).state 0 (λ r. (x.0.0.1 around type l offset r).after)) (sym is)
      (x.1.0.moves (part filled) type state around knows l offset) none

  first_in : (x : GoodB) (filled : Filled) (target : CType) (at : ℕ) (type : CType) (state : State) (around : Around) → x.0.1 ≡ true → Knows around state → (l : Lvalue) (offset : ℕ)
      → part_of state.scope.structs (Some target) at ≡ Some type → (part_walk filled (Some target) at x.0.0.0 state).broken ≡ []
      → (m : Meanings) → Surrounds located pointer returns takes m state.scope around → PlaceIn located pointer returns takes l → TypeWithin around.structs type → offset + size_in around.structs type ≤ most_bytes
      → (r : Reached) → Front (meanings_of (part_walk filled (Some target) at x.0.0.0 state).state.notes) m → IsAt r (meanings_of state.notes) → AllEffectsWithin located pointer returns takes (x.0.0.1 around type l offset r).effects
  first_in x filled target at type state around formed knows l offset is none m k p t le r w here =
      subst (λ o. (x.0.0.0 (part filled) o state).broken ≡ [] → Front (meanings_of (x.0.0.0 (part filled) o state).state.notes) m → AllEffectsWithin located pointer returns takes (x.0.0.1 around type l offset r).effects) (sym is)
      (λ none w. x.1.1 formed (part filled) type state around knows l offset none m k p t le r w here) none w

  abbrev ElementsMove : List FillB → Filled → Place → CType → (whole at count size : ℕ) → State → Around → Lvalue → ℕ → Type 0
  ElementsMove bs filled place element whole at count size state around l offset = (parts filled (Some (Array element whole)) at (map (λ b. b.0) bs) state).broken ≡ []
      → Moves around state (parts filled (Some (Array element whole)) at (map (λ b. b.0) bs) state).state 0 (λ r. (elements_filled (map (λ b. b.1) bs) around element place size count l offset r).after)

  rest_elements : (all : List GoodB) (filled : Filled) (place : Place) (element : CType) (whole at count size : ℕ) (state : State) (around : Around) → Knows around state → (l : Lvalue) (offset : ℕ)
      → at + count ≡ whole → length all ≤ count → ElementsMove (pairs all) filled place element whole at count size state around l offset
  rest_elements all filled place element whole at count size state around knows l offset e le = let many = as_many weak all in
      subst (λ bs. ElementsMove bs filled place element whole at count size state around l offset) (weak_same all) (elements_move (map weak all) filled place element whole at count size state around knows l offset e (omega (arith, le, many)))

  abbrev MembersMove : List FillB → Filled → Place → (number at : ℕ) → List CType → List ℕ → State → Around → Lvalue → ℕ → Type 0
  MembersMove bs filled place number at types offsets state around l offset = (parts filled (Some (Struct number)) at (map (λ b. b.0) bs) state).broken ≡ []
      → Moves around state (parts filled (Some (Struct number)) at (map (λ b. b.0) bs) state).state 0 (λ r. (members_filled (map (λ b. b.1) bs) around place types offsets l offset r).after)

  rest_members : (all : List GoodB) (filled : Filled) (place : Place) (number at : ℕ) (types : List CType) (offsets : List ℕ) (state : State) (around : Around) → Knows around state → (l : Lvalue) (offset : ℕ)
      → RestIs (struct_members state.scope.structs number) at types → length types ≡ length offsets → length all ≤ length types → MembersMove (pairs all) filled place number at types offsets state around l offset
  rest_members all filled place number at types offsets state around knows l offset rest e le = let many = as_many weak all in
      subst (λ bs. MembersMove bs filled place number at types offsets state around l offset) (weak_same all) (members_move (map weak all) filled place number at types offsets state around knows l offset rest e (omega (arith, le, many)))

  -- ---- an array

  elements_in : (all : List GoodB) (filled : Filled) (place : Place) (element : CType) (many at count size : ℕ) (state : State) (around : Around) → every (formeds all) ≡ true → Knows around state → (l : Lvalue) (offset : ℕ)
      → at + count ≡ many → length all ≤ count → size ≡ size_in around.structs element → offset + size * count ≤ most_bytes → (parts filled (Some (Array element many)) at (checks all) state).broken ≡ []
      → (m : Meanings) → Surrounds located pointer returns takes m state.scope around → PlaceIn located pointer returns takes l → TypeWithin around.structs element
      → (r : Reached) → Front (meanings_of (parts filled (Some (Array element many)) at (checks all) state).state.notes) m → IsAt r (meanings_of state.notes) → AllEffectsWithin located pointer returns takes (elements_filled (fills all) around element place size count l offset r).effects
  unfolding ◌then◌
  elements_in [] filled place element many at count size state around formed knows l offset e le z room h m k p t r w here =
      zeros_within located pointer returns takes around.structs place (Array element count) l offset (subst (λ n. offset + n * count ≤ most_bytes) z room) p
  elements_in (x ∷ more) filled place element many at zero size state around formed knows l offset e le z room h m k p t r w here = absurd (omega (arith, le))
  elements_in (x ∷ more) filled place element many at (suc n) size state around formed knows l offset e le z room h m k p t r w here =
      let lt : nat_lt at many ≡ true = grind (arith, nat_tests) in
      let is : part_of state.scope.structs (Some (Array element many)) at ≡ Some element = ap (λ b. cond b (Some element) None) lt in
      let both_formed = both_true x.0.1 (every (formeds more)) formed in
      let none = first_broken (part_walk filled (Some (Array element many)) at x.0.0.0) (parts filled (Some (Array element many)) (at + 1) (checks more)) state h in
      let none1 = second_broken (part_walk filled (Some (Array element many)) at x.0.0.0) (parts filled (Some (Array element many)) (at + 1) (checks more)) state h in
      let first = first_moves x filled (Array element many) at element state around knows l offset is none in
      let mid = (part_walk filled (Some (Array element many)) at x.0.0.0 state).state in
      let knows1 = knows_on around state mid 0 knows first.grows in
      let product : size * suc n ≡ size * n + size = mul-suc size n in
      let rest = rest_elements more filled place element many (at + 1) n size mid around knows1 l (offset + size) (omega (arith, e)) (omega (arith, le)) none1 in
      let w0 = front_then _ _ _ rest.grows.on w in
      append_within located pointer returns takes (x.0.0.1 around element l offset r).effects _
      (first_in x filled (Array element many) at element state around both_formed.0 knows l offset is none m k p t (omega (arith, z, product, room)) r w0 here)
      (elements_in more filled place element many (at + 1) n size mid around both_formed.1 knows1 l (offset + size) (omega (arith, e)) (omega (arith, le)) z (omega (arith, product, room)) none1 m
      (surrounds_on m state.scope mid.scope around first.grows.functions k) p t (x.0.0.1 around element l offset r).after w (first.at r (front_then _ _ _ w0 k.front) here))

  -- ---- a struct

  members_in : (all : List GoodB) (filled : Filled) (place : Place) (number at : ℕ) (types : List CType) (offsets : List ℕ) (most : ℕ) (state : State) (around : Around) → every (formeds all) ≡ true → Knows around state → (l : Lvalue) (offset : ℕ)
      → RestIs (struct_members state.scope.structs number) at types → length types ≡ length offsets → length all ≤ length types → EndBy around.structs most types offsets → TypesWithin around.structs types → offset + most ≤ most_bytes
      → (parts filled (Some (Struct number)) at (checks all) state).broken ≡ [] → (m : Meanings) → Surrounds located pointer returns takes m state.scope around → PlaceIn located pointer returns takes l
      → (r : Reached) → Front (meanings_of (parts filled (Some (Struct number)) at (checks all) state).state.notes) m → IsAt r (meanings_of state.notes) → AllEffectsWithin located pointer returns takes (members_filled (fills all) around place types offsets l offset r).effects
  unfolding ◌then◌
  members_in [] filled place number at types offsets most state around formed knows l offset rest e le ends ts room h m k p r w here = member_zeros_within located pointer returns takes around.structs place types offsets l offset most ends room p
  members_in (x ∷ more) filled place number at [] offsets most state around formed knows l offset rest e le ends ts room h m k p r w here = absurd (omega (arith, le))
  members_in (x ∷ more) filled place number at (t ∷ types) [] most state around formed knows l offset rest e le ends ts room h m k p r w here = absurd (omega (arith, e))
  members_in (x ∷ more) filled place number at (t ∷ types) (o ∷ os) most state around formed knows l offset rest e le ends ts room h m k p r w here =
      let is = member_there (struct_members state.scope.structs number) rest.before types t at rest.is rest.at_end in
      let both_formed = both_true x.0.1 (every (formeds more)) formed in
      let none = first_broken (part_walk filled (Some (Struct number)) at x.0.0.0) (parts filled (Some (Struct number)) (at + 1) (checks more)) state h in
      let none1 = second_broken (part_walk filled (Some (Struct number)) at x.0.0.0) (parts filled (Some (Struct number)) (at + 1) (checks more)) state h in
      let first = first_moves x filled (Struct number) at t state around knows l (offset + o) is none in
      let mid = (part_walk filled (Some (Struct number)) at x.0.0.0 state).state in
      let there = subst (λ structs. RestIs (struct_members structs number) (at + 1) types) (sym first.grows.structs) (rest_on (struct_members state.scope.structs number) at t types rest) in
      let knows1 = knows_on around state mid 0 knows first.grows in
      let others = rest_members more filled place number (at + 1) types os mid around knows1 l offset there (omega (arith, e)) (omega (arith, le)) none1 in
      let w0 = front_then _ _ _ others.grows.on w in let end = ends.0 in
      append_within located pointer returns takes (x.0.0.1 around t l (offset + o) r).effects _
      (first_in x filled (Struct number) at t state around both_formed.0 knows l (offset + o) is none m k p ts.0 (omega (arith, end, room)) r w0 here)
      (members_in more filled place number (at + 1) types os most mid around both_formed.1 knows1 l offset there (omega (arith, e)) (omega (arith, le)) ends.1 ts.1 room none1 m
      (surrounds_on m state.scope mid.scope around first.grows.functions k) p (x.0.0.1 around t l (offset + o) r).after w (first.at r (front_then _ _ _ w0 k.front) here))

  -- ---- a list in braces

  abbrev NotCrowded : List FillB → Place → Filled → CType → State → ℕ → Type 0
  NotCrowded bs place filled target state count = ((parts filled (Some target) 0 (map (λ b. b.0) bs) then many_judged (Some target) (length (map (λ b. b.0) bs)) place) state).broken ≡ [] → is_crowded state.scope.structs (outer_of target) count ≡ false

  room_for : (all : List GoodB) (place : Place) (filled : Filled) (target : CType) (state : State) → NotCrowded (pairs all) place filled target state (length all)
  room_for all place filled target state = subst (λ count. NotCrowded (pairs all) place filled target state count) (as_many weak all)
      (subst (λ bs. NotCrowded bs place filled target state (length (map weak all))) (weak_same all) (crowded_before (map weak all) filled place target state))

  parts_in : (all : List GoodB) (place : Place) (filled : Filled) (target : CType) (state : State) (around : Around) → every (formeds all) ≡ true → Knows around state → (l : Lvalue) (offset : ℕ)
      → is_crowded state.scope.structs (outer_of target) (length all) ≡ false → (parts filled (Some target) 0 (checks all) state).broken ≡ []
      → (m : Meanings) → Surrounds located pointer returns takes m state.scope around → PlaceIn located pointer returns takes l → TypeWithin around.structs target → offset + size_in around.structs target ≤ most_bytes
      → (r : Reached) → Front (meanings_of (parts filled (Some target) 0 (checks all) state).state.notes) m → IsAt r (meanings_of state.notes) → AllEffectsWithin located pointer returns takes (many_filled (fills all) place around target l offset r).effects
  parts_in all place filled Void state around formed knows l offset few h m k p t le r w here = tt
  parts_in all place filled (Int kind) state around formed knows l offset few h m k p t le r w here = tt
  parts_in all place filled (Pointer target) state around formed knows l offset few h m k p t le r w here = tt
  parts_in all place filled (Array element count) state around formed knows l offset few h m k p t le r w here =
      elements_in all filled place element count 0 count (size_in around.structs element) state around formed knows l offset (omega arith) (not_above count (length all) few) refl le h m k p t.0 r w here
  parts_in all place filled (Struct number) state around formed knows l offset few h m k p t le r w here =
      let types = members_of around.structs number in let seen = ap (λ structs. members_of structs number) knows ∙ members_seen state.scope.structs number in
      let many : length types ≡ length (struct_members state.scope.structs number) = ap length seen ∙ as_many (λ (m : Member). m.kind) (struct_members state.scope.structs number) in
      let offsets = offsets_from 0 (map (layout_of around.structs) types) in
      let placed : length types ≡ length offsets = sym (as_many_offsets (map (layout_of around.structs) types) 0 ∙ as_many (layout_of around.structs) types) in
      let enough = not_above (length (struct_members state.scope.structs number)) (length all) few in
      members_in all filled place number 0 types offsets (size_in around.structs (Struct number)) state around formed knows l offset record { before = []; is = sym seen; at_end = refl } placed (omega (arith, many, enough))
      (members_end around.structs number k.within.structs) (k.within.structs.types number) le h m k p r w here

  many_in : (all : List GoodB) (place : Place) (filled : Filled) (target : CType) (state : State) (around : Around) → every (formeds all) ≡ true → Knows around state → (l : Lvalue) (offset : ℕ)
      → ((parts filled (Some target) 0 (checks all) then many_judged (Some target) (length (checks all)) place) state).broken ≡ []
      → (m : Meanings) → Surrounds located pointer returns takes m state.scope around → PlaceIn located pointer returns takes l → TypeWithin around.structs target → offset + size_in around.structs target ≤ most_bytes
      → (r : Reached) → Front (meanings_of ((parts filled (Some target) 0 (checks all) then many_judged (Some target) (length (checks all)) place) state).state.notes) m → IsAt r (meanings_of state.notes)
      → AllEffectsWithin located pointer returns takes (many_filled (fills all) place around target l offset r).effects
  unfolding ◌then◌ at_node
  many_in all place filled target state around formed knows l offset h m k p t le r w here = let walk = parts filled (Some target) 0 (checks all) in
      parts_in all place filled target state around formed knows l offset (room_for all place filled target state h) (first_broken walk (many_judged (Some target) (length (checks all)) place) state h) m k p t le r w here

  -- ---- initialisers

  alike_step : (y : InitKind-F GoodA GoodB) (place : Place) → FillAlike ((step_formed (bare y)).0.0 place, (step_formed (bare y)).0.1 place)
  alike_step (i.One x) = every_fill (i.One x)
  alike_step (i.Many all) = subst (λ bs. FillAlikeAt (fill_both (i.Many bs))) (weak_same all) (every_fill (i.Many (map weak all)))

  within_step : (y : InitKind-F GoodA GoodB) (place : Place) → (step_formed (bare y)).1 ≡ true → FillsWithin ((step_formed (bare y)).0.0 place, (step_formed (bare y)).0.1 place)
  within_step (i.One x) place f filled target state around knows l offset h m k p t le r w here = one_in x place filled target state around l offset f h m k p t le r w here
  within_step (i.Many all) place f filled target state around knows l offset h m k p t le r w here =
      many_in all place filled target state around (both_true (not (is_empty (formeds all))) (every (formeds all)) f).1 knows l offset h m k p t le r w here

  abbrev formed_both : Init → FormedB
  formed_both = fold-Init FormedA FormedB step_formed struct_formed

  boths_same : (x : Init) → (formed_both x).0 ≡ filled_both x
  boths_same x = inits_fused FormedA FormedB FillA FillB step_formed struct_formed fill_both fill_struct (λ a. a.0) (λ b. b.0) (λ y. refl) (λ y. refl) x

  formeds_same : (x : Init) → (formed_both x).1 ≡ formed_init x
  formeds_same x = inits_fused FormedA FormedB Bool Bool step_formed struct_formed formed_step (λ x. stands x.place && x.kind) (λ a. a.1) (λ b. b.1) (λ y. refl) (λ y. refl) x

  good_step : (y : InitKind-F GoodA GoodB) → GoodAt (step_formed (bare y))
  good_step y place = (alike_step y place, within_step y place)

  good_struct : (y : Init-F GoodA GoodB) → Good (struct_formed (bare_inits_struct FormedA FormedB step_formed struct_formed GoodAt Good y))
  good_struct y = let h = y.kind.1 y.place in (h.0, λ f. h.1 (both_true (stands y.place) y.kind.0.1 f).1)

  pub initialisers_within : (x : Init) → formed_init x ≡ true → FillsWithin (c.fills x, initialiser expression x)
  initialisers_within x f = subst (λ check. FillsWithin (check, initialiser expression x)) (checks_same x) (subst (λ fill. FillsWithin ((filled_both x).0, fill)) (fills_same x) (subst FillsWithin (boths_same x)
      ((every_inits FormedA FormedB step_formed struct_formed GoodAt Good good_step good_struct x).1 (formeds_same x ∙ f))))
