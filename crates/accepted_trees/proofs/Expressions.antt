-- An expression without broken rules is within the limits of code, node by node.
use Rattle.std.proofs.Common.{◌≡◌, ℕ, zero, suc, ◌+◌, ◌^◌, ◌<◌, ◌≤◌, ◌==◌, refl, sym, ap, ◌∙◌, subst, Bool, true, false, ◌&&◌, nat_lt, List, [], ◌∷◌, ◌++◌, map, length, length-append, if◌then◌else◌, arith}
use Rattle.std.specs.Prelude.{Option, None, Some, slice_index_or}
use Rattle.std.specs.List.{AllByRecursion}
use Rattle.std.proofs.lemmas.Bool.Decides.{nat_tests}
use Rattle.fat_ir.specs.Step.{Located}
use Rattle.mx_base.specs.declared.numbers.IntKind.{IntKind}
use Rattle.mx_base.specs.Numbers.{word_of, value_of, extended}
use Rattle.mx_base.proofs.NumbersLemmas.{residue-lt}
use Rattle.mx_base.specs.declared.places.Place.{Place}
use Rattle.c_tree.specs.declared.tree.Base.{Base}
use Rattle.c_tree.specs.declared.tree.Base.TheVariants as base
use Rattle.c_tree.specs.declared.tree.Expr.{Expr, Expr-F, fold-Expr}
use Rattle.c_tree.specs.declared.tree.ExprKind.{ExprKind-F}
use Rattle.c_tree.specs.declared.tree.ExprKind.TheFolds as ef
use Rattle.c_tree.specs.declared.tree.ExprKind.TheOpen as e
use Rattle.c_tree.specs.Formed.{stands, every, has_number_type, is_number, formed_base, few_stars, expr_step, formed_expr}
use Rattle.c_tree.specs.Names.{is_name}
use Rattle.c_types.specs.Types.{CType, Void, Int, StructType}
use Rattle.c_check_rules.specs.declared.names.Scope.{Scope}
use Rattle.c_check_rules.specs.Names.{found_in}
use Rattle.c_check_rules.specs.Sizes.{limit}
use Rattle.c_check_typing.specs.declared.typed.Typed.{Typed}
use Rattle.c_check_typing.specs.declared.typed.Notes.{Notes}
use Rattle.c_check_typing.specs.Notes.{Own, Seen, leaf, one, two, three, unevaluated, with_typed, first_evaluated}
use Rattle.c_check_typing.specs.Rules.{text_own, size_own, params_of, params_after, takes_function, call_own}
use Rattle.c_check_typing.specs.Expressions.{Reading as Checking, arguments, and_fits, call, seen}
use Rattle.bounds_plan.specs.meaning.Core.{Object}
use Rattle.bounds_plan.specs.laws.Laws.{most_bytes}
use Rattle.bounds_plan.specs.elaboration.Types.{ANumber, APointer, AWhole, NoValue, Sort, sort_of, size_in, pointer_in, target_of}
use Rattle.bounds_plan.specs.elaboration.Source.{Stand, Private, Frame, Meanings, Reached, Around, kind_at, bind_at, literal_at, past_kind, past_name}
use Rattle.bounds_plan.specs.elaboration.Places.{Lvalue, private_values_of, variable_at as placed_at, variable_of, place_among, struct_of}
use Rattle.bounds_plan.specs.elaboration.Expressions.{Found, Reading, named, called, find_all, binary, chosen_as, member, arrow, index, based, starred, step, expression}
use Rattle.c_check_rules.specs.declared.predeclared.Bind.{Bind}
use Rattle.c_check_rules.specs.declared.predeclared.Bind.TheVariants.{Global, Local, Fun, Service, Builtin}
use Rattle.c_tree.proofs.Inductions.{ExprA, ExprB, bare_exprs, bare_exprs_struct, every_exprs, exprs_fused}
use Rattle.c_accepted.specs.Alike.{meanings_of, signatures_seen, IsAt, Front}
use Rattle.c_accepted.proofs.Empty.{first_empty, second_empty, none_at}
use Rattle.c_accepted.proofs.Going.{front_itself, front_then}
use Rattle.c_accepted.proofs.Gives.{named_gives, unary_gives}
use Rattle.c_accepted.proofs.Heads.{both_true}
use Rattle.c_accepted.proofs.Owns.{IsFine, any, Fine, unary_fine, binary_fine, choice_fine, assign_fine, step_fine, index_fine, member_fine, arrow_fine, cast_fine, size_fine, call_fine}
use Rattle.c_accepted.proofs.Expressions.{Alike, front_own, fine_at, both_own, both_fine, all_own, BothA, BothB, step_both, struct_both, AreAlike, AreAlikeAt, PartsB, ArgumentsGo, arguments_go, name_at, every_step, both, checks_same, reads_same}
use Rattle.asked_steps.specs.Trees.{WithinPtr, EffectWithin}
use Rattle.accepted_trees.specs.Limits.{TypeWithin, TypesWithin, MeaningsWithin, StandWithin, AroundWithin}
use Rattle.accepted_trees.proofs.Sizes.{size_small, size_word}
use Rattle.accepted_trees.proofs.Called.{found_signed, call_right}
use Rattle.accepted_trees.proofs.Closing.{CallsRight, PlaceWithin, FoundWithin, AllFoundWithin, no_place_within, a_place_within, unary_within, binary_within, chosen_within, assign_within, stepped_within, cast_within, called_within, index_within, member_at_within, pointer_within}

-- ---- the checker's fold and the elaboration's beside whether the tree is formed

abbrev pub FormedA : Type 0
FormedA = BothA × Bool

abbrev pub FormedB : Type 0
FormedB = BothB × Bool

abbrev pub step_formed : ExprKind-F FormedA FormedB → FormedA
step_formed y = (step_both (ef.map-ExprKind FormedA FormedB BothA BothB (λ a. a.0) (λ b. b.0) y), expr_step (ef.map-ExprKind FormedA FormedB Bool Bool (λ a. a.1) (λ b. b.1) y))

abbrev pub struct_formed : Expr-F FormedA FormedB → FormedB
struct_formed x = ((x.kind.0.0 x.place, x.kind.0.1 x.place), stands x.place && x.kind.1)

-- ---- lists of types

each_at : {X : Type 0} (P : X → Type 0) (xs more : List X) (i : ℕ) (other : X) → AllByRecursion P xs → i < length xs → P (slice_index_or (xs ++ more) i other)
each_at P [] more i other h lt = absurd (omega (arith, lt))
each_at P (x ∷ xs) more zero other h lt = h.0
each_at P (x ∷ xs) more (suc n) other h lt = each_at P xs more n other h.1 (omega (arith, lt))

each_front : {X : Type 0} (P : X → Type 0) (xs more : List X) → AllByRecursion P (xs ++ more) → AllByRecursion P xs
each_front P [] more h = tt
each_front P (x ∷ xs) more h = (h.0, each_front P xs more h.1)

-- a type that was noted
pub noted_within : (structs : List StructType) (xs all whole : List CType) (i : ℕ) → (more : List CType) → all ≡ xs ++ more → (others : List CType) → whole ≡ all ++ others → TypesWithin structs all → i + 1 ≡ length xs → TypeWithin structs (slice_index_or whole i Void)
noted_within structs xs all whole i more e others f h k =
    subst (λ l. TypeWithin structs (slice_index_or l i Void)) (sym f) (each_at (TypeWithin structs) all others i Void h (omega (arith, k, ap length e, length-append xs more)))

-- ---- words

same_number : (n m : ℕ) → (n == m) ≡ true → n ≡ m
same_number n m h = grind (arith, nat_tests)

pub extended_small : (kind : IntKind) (n : ℕ) → extended kind n < 2 ^ 64
unfolding extended word_of
extended_small kind n = residue-lt (2 ^ 64) (value_of kind n) (omega arith)

module _ (located : ℕ → Located) (pointer : Bool) (returns : ℕ → Bool) (takes : ℕ → List (ℕ × Option ℕ) → Bool) where
  abbrev pub FoundIn : List StructType → Found → Type 0
  FoundIn structs f = FoundWithin located pointer returns takes structs f

  abbrev pub PlaceIn : Lvalue → Type 0
  PlaceIn l = PlaceWithin located pointer returns takes l

  -- what is around an expression keeps to the limits, and so do the types that are noted by the end of the item, in front of all that are noted
  pub record Surrounds (m : Meanings) (scope : Scope) (around : Around) : Type 0 where
    pub front : Front m around.meanings
    pub types : MeaningsWithin around.structs m
    pub within : AroundWithin located returns takes around
    pub few : length scope.functions ≤ 4294967295
    pub signatures : around.signatures ≡ signatures_seen scope.functions

  abbrev pub AreWithin : BothB → Type 0
  AreWithin b = (functions : Bool) (scope : Scope) → (b.0 functions scope).broken ≡ [] → (m : Meanings) (around : Around) → Surrounds m scope around → (n : Notes) (r : Reached) → Front (meanings_of ((b.0 functions scope).after n)) m → IsAt r (meanings_of n) → FoundIn around.structs (b.1 around r)

  abbrev pub Good : FormedB → Type 0
  Good b = AreAlike b.0 × (b.1 ≡ true → AreWithin b.0)

  abbrev pub GoodAt : FormedA → Type 0
  GoodAt a = (place : Place) → AreAlike (a.0.0 place, a.0.1 place) × (a.1 ≡ true → AreWithin (a.0.0 place, a.0.1 place))

  abbrev GoodA : Type 0
  GoodA = ExprA FormedA FormedB step_formed struct_formed GoodAt Good

  abbrev GoodB : Type 0
  GoodB = ExprB FormedA FormedB step_formed struct_formed GoodAt Good

  abbrev bare : ExprKind-F GoodA GoodB → ExprKind-F FormedA FormedB
  bare = bare_exprs FormedA FormedB step_formed struct_formed GoodAt Good

  -- the checker and the elaboration alone
  abbrev weak : GoodB → PartsB
  weak y = (y.0.0, y.1.0)

  abbrev pair : GoodB → BothB
  pair y = y.0.0

  weak_same : (all : List GoodB) → map (λ y. y.0) (map weak all) ≡ map (λ b. b.0) (map (λ y. y.0) all)
  weak_same [] = refl
  weak_same (a ∷ more) = ap (λ bs. a.0.0 ∷ bs) (weak_same more)

  -- ---- a node's type

  node_type : (s : Seen) (read : Reading) → Alike s read → (m : Meanings) (scope : Scope) (around : Around) → Surrounds m scope around → (n : Notes) (r : Reached) → Front (meanings_of (s.after n)) m → IsAt r (meanings_of n)
      → (p : Reached) → (read around r).after.kind ≡ p.kind + 1 → TypeWithin around.structs (kind_at around p)
  node_type s read x m scope around k n r w at p is =
      let there = x.goes.at n around r (front_then _ _ _ w k.front) at in
      noted_within around.structs (meanings_of (s.after n)).kinds m.kinds around.meanings.kinds p.kind w.kinds.more w.kinds.is k.front.kinds.more k.front.kinds.is k.types.kinds (sym is ∙ there.kind)

  -- ---- parts

  any_fine : (own : Own) (kinds : CType → Type 0) → IsFine own None kinds → IsFine own None any
  any_fine own kinds fine = record { typed = fine.typed; is = fine.is; notes = fine.notes; kind = tt }

  one_part : (place : Place) (own : Option Typed → Own) (scope : Scope) (a : GoodB) → a.0.1 ≡ true → ((t : Typed) → Fine (own (Some t))) → (one place (a.0.0.0 false scope) own).broken ≡ [] → (m : Meanings) (around : Around) → Surrounds m scope around
      → (n : Notes) (r : Reached) → Front (meanings_of ((one place (a.0.0.0 false scope) own).after n)) m → IsAt r (meanings_of n) → FoundIn around.structs (a.0.0.1 around r)
  unfolding one
  one_part place own scope a formed fine h m around k n r w at = let s = a.0.0.0 false scope in let free = first_empty s.broken _ h in let x = a.1.0 false scope free in
      let here = fine_at own None any s.typed (Some x.typed) x.is (fine x.typed) (none_at place (own s.typed).broken (second_empty s.broken _ h)) in
      a.1.1 formed false scope free m around k n r (front_then _ _ _ (front_own (own s.typed) None any here (s.after n)) w) at

  two_parts : (place : Place) (own : Typed → Typed → Own) (scope : Scope) (a c : GoodB) → a.0.1 ≡ true → c.0.1 ≡ true → ((t u : Typed) → Fine (own t u)) → (two place (a.0.0.0 false scope) (c.0.0.0 false scope) own).broken ≡ [] → (m : Meanings) (around : Around) → Surrounds m scope around
      → (n : Notes) (r : Reached) → Front (meanings_of ((two place (a.0.0.0 false scope) (c.0.0.0 false scope) own).after n)) m → IsAt r (meanings_of n) → FoundIn around.structs (a.0.0.1 around r) × FoundIn around.structs (c.0.0.1 around (a.0.0.1 around r).after)
  unfolding two
  two_parts place own scope a c fa fc fine h m around k n r w at = let s = a.0.0.0 false scope in let t = c.0.0.0 false scope in let parts = first_empty (s.broken ++ t.broken) _ h in
      let free = first_empty s.broken _ parts in let free1 = second_empty s.broken t.broken parts in let x = a.1.0 false scope free in let y = c.1.0 false scope free1 in
      let here = both_fine own any s.typed t.typed x.typed y.typed x.is y.is (fine x.typed y.typed) (none_at place _ (second_empty (s.broken ++ t.broken) _ h)) in
      let w1 = front_then _ _ _ (front_own (both_own own s.typed t.typed) None any here (t.after (s.after n))) w in let w0 = front_then _ _ _ (y.goes.on (s.after n)) w1 in
      (a.1.1 fa false scope free m around k n r w0 at, c.1.1 fc false scope free1 m around k (s.after n) (a.0.0.1 around r).after w1 (x.goes.at n around r (front_then _ _ _ w0 k.front) at))

  three_parts : (place : Place) (own : Typed → Typed → Typed → Own) (scope : Scope) (a b c : GoodB) → a.0.1 ≡ true → b.0.1 ≡ true → c.0.1 ≡ true → ((t u v : Typed) → Fine (own t u v)) → (three place (a.0.0.0 false scope) (b.0.0.0 false scope) (c.0.0.0 false scope) own).broken ≡ []
      → (m : Meanings) (around : Around) → Surrounds m scope around → (n : Notes) (r : Reached) → Front (meanings_of ((three place (a.0.0.0 false scope) (b.0.0.0 false scope) (c.0.0.0 false scope) own).after n)) m → IsAt r (meanings_of n)
      → FoundIn around.structs (a.0.0.1 around r) × FoundIn around.structs (b.0.0.1 around (a.0.0.1 around r).after) × FoundIn around.structs (c.0.0.1 around (b.0.0.1 around (a.0.0.1 around r).after).after)
  unfolding three
  three_parts place own scope a b c fa fb fc fine h m around k n r w at = let s = a.0.0.0 false scope in let t = b.0.0.0 false scope in let u = c.0.0.0 false scope in
      let parts = first_empty (s.broken ++ (t.broken ++ u.broken)) _ h in let others = second_empty s.broken (t.broken ++ u.broken) parts in
      let free = first_empty s.broken _ parts in let free1 = first_empty t.broken u.broken others in let free2 = second_empty t.broken u.broken others in
      let x = a.1.0 false scope free in let y = b.1.0 false scope free1 in let z = c.1.0 false scope free2 in
      let here = fine_at (λ o. all_own own o t.typed u.typed) None any s.typed (Some x.typed) x.is (fine_at (λ o. all_own own (Some x.typed) o u.typed) None any t.typed (Some y.typed) y.is
      (fine_at (λ o. all_own own (Some x.typed) (Some y.typed) o) None any u.typed (Some z.typed) z.is (fine x.typed y.typed z.typed))) (none_at place _ (second_empty (s.broken ++ (t.broken ++ u.broken)) _ h)) in
      let w2 = front_then _ _ _ (front_own (all_own own s.typed t.typed u.typed) None any here (u.after (t.after (s.after n)))) w in
      let w1 = front_then _ _ _ (z.goes.on (t.after (s.after n))) w2 in let w0 = front_then _ _ _ (y.goes.on (s.after n)) w1 in
      let r1 = (a.0.0.1 around r).after in let at1 = x.goes.at n around r (front_then _ _ _ w0 k.front) at in (
        a.1.1 fa false scope free m around k n r w0 at,
        b.1.1 fb false scope free1 m around k (s.after n) r1 w1 at1,
        c.1.1 fc false scope free2 m around k (t.after (s.after n)) (b.0.0.1 around r1).after w2 (y.goes.at (s.after n) around r1 (front_then _ _ _ w1 k.front) at1),
      )

  -- ---- names

  first_within : (sort : Sort) (s : Stand) (x size : ℕ) → StandWithin s → size ≤ most_bytes → PlaceIn (placed_at sort s x size)
  first_within (ANumber kind) Private x size h le = tt
  first_within APointer Private x size h le = tt
  first_within AWhole Private x size h le = (omega arith, omega (arith, le))
  first_within NoValue Private x size h le = (omega arith, omega (arith, le))
  first_within (ANumber kind) (Frame offset) x size h le = (h, omega (arith, le))
  first_within APointer (Frame offset) x size h le = (h, omega (arith, le))
  first_within AWhole (Frame offset) x size h le = (h, omega (arith, le))
  first_within NoValue (Frame offset) x size h le = (h, omega (arith, le))

  pub variable_within : (structs : List StructType) (ts : List CType) (ss : List Stand) (x number : ℕ) → TypesWithin structs ts → AllByRecursion StandWithin ss → PlaceIn (variable_of structs ts ss x number)
  variable_within structs [] ss x number h k = tt
  variable_within structs (t ∷ ts) [] x number h k = tt
  variable_within structs (t ∷ ts) (s ∷ ss) x zero h k = first_within (sort_of t) s x (size_in structs t) k.0 (size_small structs t h.0)
  variable_within structs (t ∷ ts) (s ∷ ss) x (suc n) h k = variable_within structs ts ss (x + length (private_values_of (sort_of t) s)) n h.1 k.1

  nothing_fits : 0 < 2 ^ 64
  nothing_fits = omega arith

  named_within : (around : Around) (type : CType) (bind : Bind) (place : Place) (after : Reached) → AroundWithin located returns takes around → TypeWithin around.structs type → FoundIn around.structs (named around type bind place after)
  named_within around type (Global number) place after k t = let le = size_small around.structs type t in
      a_place_within located pointer returns takes around.structs type _ place after t ((omega arith, omega (arith, le)), k.symbols.low _)
  named_within around type (Local number) place after k t = a_place_within located pointer returns takes around.structs type _ place after t (variable_within around.structs around.variables around.stands 0 number k.variables k.stands)
  named_within around type (Fun number) place after k t = no_place_within located pointer returns takes around.structs type _ place after t (k.symbols.low _)
  named_within around type (Service service) place after k t = no_place_within located pointer returns takes around.structs type _ place after t nothing_fits
  named_within around type (Builtin builtin) place after k t = no_place_within located pointer returns takes around.structs type _ place after t nothing_fits

  -- ---- numbers and texts

  number_small : (n : ℕ) (kind : IntKind) → is_number n kind ≡ true → n < 2 ^ 64
  number_small n kind h = let e = same_number (extended kind n) n (both_true (has_number_type kind) (extended kind n == n) h).1 in subst (λ x. x < 2 ^ 64) e (extended_small kind n)

  short : (b : Bool) (x y : Own) → ((if b then x else y).broken ≡ [] → y.broken ≡ [] → ⊥) → (if b then x else y).broken ≡ [] → b ≡ true
  short true x y f h = refl
  short false x y f h = absurd (f h h)

  text_short : (place : Place) (bytes : List ℕ) → (leaf place (text_own bytes)).broken ≡ [] → nat_lt (length bytes) limit ≡ true
  unfolding leaf text_own
  text_short place bytes h = short (nat_lt (length bytes) limit) _ _ (λ x y. cc) (none_at place _ h)

  -- ---- calls

  abbrev checks : List GoodB → List Checking
  checks all = map (λ b. b.0) (map (λ b. b.0) (map (λ y. y.0) all))

  abbrev finds : List GoodB → List Reading
  finds all = map (λ b. b.1) (map (λ b. b.0) (map (λ y. y.0) all))

  abbrev formeds : List GoodB → List Bool
  formeds all = map (λ b. b.1) (map (λ y. y.0) all)

  abbrev AllGo : Scope → Option Bool → List CType → List BothB → Type 0
  AllGo scope fit params bs = (arguments scope fit params (map (λ b. b.0) bs)).broken ≡ [] → ArgumentsGo (arguments scope fit params (map (λ b. b.0) bs)) (λ around r. (find_all (map (λ b. b.1) bs) around r).after)

  all_go : (all : List GoodB) (scope : Scope) (fit : Bool) (params : List CType) → AllGo scope (Some fit) params (map (λ b. b.0) (map (λ y. y.0) all))
  all_go all scope fit params = subst (AllGo scope (Some fit) params) (weak_same all) (arguments_go (map weak all) scope fit params)

  abbrev AllIn : Scope → Option Bool → List CType → List GoodB → Type 0
  AllIn scope fit params all = every (formeds all) ≡ true → (arguments scope fit params (checks all)).broken ≡ [] → (m : Meanings) (around : Around) → Surrounds m scope around → (n : Notes) (r : Reached)
      → Front (meanings_of ((arguments scope fit params (checks all)).after n)) m → IsAt r (meanings_of n) → AllFoundWithin located pointer returns takes around.structs (find_all (finds all) around r).all

  all_in : (all : List GoodB) (scope : Scope) (fit : Bool) (params : List CType) → AllIn scope (Some fit) params all
  all_in [] scope fit params formed h m around k n r w at = tt
  all_in (a ∷ more) scope fit params formed h m around k n r w at = let s = a.0.0.0 (takes_function params) scope in let free = first_empty s.broken _ h in let others = second_empty s.broken _ h in
      let x = a.1.0 (takes_function params) scope free in let same = sym (ap (and_fits (Some fit) params) x.is) in let both_formed = both_true a.0.1 (every (formeds more)) formed in
      let go = subst (λ o. AllGo scope o (params_after params) (map (λ b. b.0) (map (λ y. y.0) more))) same (all_go more scope _ (params_after params)) others in
      let rest = subst (λ o. AllIn scope o (params_after params) more) same (all_in more scope _ (params_after params)) both_formed.1 others m around k in
      let w0 = front_then _ _ _ (go.goes.on (s.after n)) w in
      (a.1.1 both_formed.0 (takes_function params) scope free m around k n r w0 at, rest (s.after n) (a.0.0.1 around r).after w (x.goes.at n around r (front_then _ _ _ w0 k.front) at))

  call_in : (name : List ℕ) (all : List GoodB) (place : Place) (scope : Scope) → every (formeds all) ≡ true → (call place scope (found_in scope name) (checks all)).broken ≡ [] → (m : Meanings) (around : Around) → Surrounds m scope around → (n : Notes) (r : Reached)
      → Front (meanings_of ((call place scope (found_in scope name) (checks all)).after n)) m → IsAt r (meanings_of n) → TypeWithin around.structs (kind_at around (find_all (finds all) around r).after) → FoundIn around.structs (step (e.Call name (finds all)) place around r)
  unfolding call
  call_in name all place scope formed h m around k n r w at type = let found = found_in scope name in let args = arguments scope (Some true) (params_of found) (checks all) in let free = first_empty args.broken _ h in
      let go = all_go all scope true (params_of found) free in let none = none_at place _ (second_empty args.broken _ h) in let given = name_at (call_own found) args.fit go.fits go.is (call_fine found go.fits) none in
      let w0 = front_then _ _ _ (front_own (call_own found args.fit) (Some given.bind) any given.fine (args.after n)) w in let xs = find_all (finds all) around r in
      let there = go.goes.at n around r (front_then _ _ _ w0 k.front) at in
      let right = subst (λ o. (call_own found o).broken ≡ [] → Front (meanings_of ((call_own found o).noted (args.after n))) around.meanings → CallsRight located pointer returns takes around (kind_at around xs.after) (bind_at around xs.after)) (sym go.is)
      (λ b f. call_right located pointer returns takes scope.functions around found go.fits (args.after n) xs.after k.signatures k.within.signatures k.within.symbols (found_signed scope k.few name) b f there) none (front_then _ _ _ w k.front) in
      no_place_within located pointer returns takes around.structs (kind_at around xs.after) (called around (kind_at around xs.after) (bind_at around xs.after) xs.all) place _ type
      (called_within located pointer returns takes around (kind_at around xs.after) (bind_at around xs.after) xs.all right (all_in all scope true (params_of found) formed free m around k n r w0 at))

  -- ---- `sizeof`

  of_value : (place : Place) (scope : Scope) (a : GoodB) → a.0.1 ≡ true → (one place (unevaluated (a.0.0.0 false scope)) (λ x. with_typed x (λ t. size_own scope.structs t.kind))).broken ≡ [] → (m : Meanings) (around : Around) → Surrounds m scope around
      → (n : Notes) (r : Reached) → Front (meanings_of ((one place (unevaluated (a.0.0.0 false scope)) (λ x. with_typed x (λ t. size_own scope.structs t.kind))).after n)) m → IsAt r (meanings_of n) → FoundIn around.structs (a.0.0.1 around r)
  unfolding one unevaluated
  of_value place scope a formed h m around k n r w at = let own = λ (x : Option Typed). with_typed x (λ t. size_own scope.structs t.kind) in let s = a.0.0.0 false scope in let free = first_empty s.broken _ h in let x = a.1.0 false scope free in
      let here = fine_at own None any s.typed (Some x.typed) x.is (size_fine scope.structs x.typed.kind) (none_at place (own s.typed).broken (second_empty s.broken _ h)) in
      a.1.1 formed false scope free m around k n r (front_then _ _ _ (front_own (own s.typed) None any here (first_evaluated (length n.literals) (length n.used) (s.after n))) w) at

  -- ---- expressions

  alike_step : (y : ExprKind-F GoodA GoodB) (place : Place) → AreAlike ((step_formed (bare y)).0.0 place, (step_formed (bare y)).0.1 place)
  alike_step (e.Number n kind) = every_step (e.Number n kind)
  alike_step (e.Text bytes) = every_step (e.Text bytes)
  alike_step (e.Var name) = every_step (e.Var name)
  alike_step (e.Unary op a) = every_step (e.Unary op (weak a))
  alike_step (e.Binary op a c) = every_step (e.Binary op (weak a) (weak c))
  alike_step (e.Assign op a c) = every_step (e.Assign op (weak a) (weak c))
  alike_step (e.StepBy up before a) = every_step (e.StepBy up before (weak a))
  alike_step (e.Cond c a d) = every_step (e.Cond (weak c) (weak a) (weak d))
  alike_step (e.Call name all) = subst (λ bs. AreAlikeAt (step_both (e.Call name bs))) (weak_same all) (every_step (e.Call name (map weak all)))
  alike_step (e.Index a i) = every_step (e.Index (weak a) (weak i))
  alike_step (e.Member a name) = every_step (e.Member (weak a) name)
  alike_step (e.Arrow a name) = every_step (e.Arrow (weak a) name)
  alike_step (e.Cast base stars a) = every_step (e.Cast base stars (weak a))
  alike_step (e.SizeOfKind base stars) = every_step (e.SizeOfKind base stars)
  alike_step (e.SizeOfValue a) = every_step (e.SizeOfValue (weak a))

  starred_small : (structs : List StructType) (stars : ℕ) (t : CType) → size_in structs t ≤ most_bytes → size_in structs (starred stars t) < 2 ^ 64
  starred_small structs zero t le = omega (arith, le)
  starred_small structs (suc n) t le = omega arith

  based_small : (around : Around) (b : Base) → AroundWithin located returns takes around → size_in around.structs (based around b) ≤ most_bytes
  based_small around base.Void k = omega arith
  based_small around (base.Int kind) k = size_small around.structs (Int kind) tt
  based_small around (base.Struct tag) k = k.structs.sizes (place_among around.tags tag)

  within_step : (y : ExprKind-F GoodA GoodB) (place : Place) → (step_formed (bare y)).1 ≡ true → AreWithin ((step_formed (bare y)).0.0 place, (step_formed (bare y)).0.1 place)
  within_step (e.Number v kind) place f functions scope h m around k n r w at = let t = node_type _ _ (alike_step (e.Number v kind) place functions scope h) m scope around k n r w at r refl in
      no_place_within located pointer returns takes around.structs _ _ place _ t (number_small v kind f)
  within_step (e.Text bytes) place f functions scope h m around k n r w at = let t = node_type _ _ (alike_step (e.Text bytes) place functions scope h) m scope around k n r w at r refl in
      let few = text_short place bytes h in let small : length bytes + 1 < 2 ^ 31 = grind (arith, nat_tests) in
      let there : WithinPtr located pointer returns takes (Object around.layout.texts (literal_at around r) (length bytes + 1)) = ((k.within.literals r.literal, small), k.within.symbols.low around.layout.texts) in record { type = t; value = there; lvalue = there; effect = there }
  within_step (e.Var name) place f functions scope h m around k n r w at =
      let t = node_type _ _ (alike_step (e.Var name) place functions scope h) m scope around k n r w at r (ap (λ (x : Reached). x.kind) (named_gives around (kind_at around r) (bind_at around r) place (past_name (past_kind r))).after_is) in
      named_within around (kind_at around r) (bind_at around r) place _ k.within t
  within_step (e.Unary op a) place f functions scope h m around k n r w at = let x = a.0.0.1 around r in
      let t = node_type _ _ (alike_step (e.Unary op a) place functions scope h) m scope around k n r w at x.after (ap (λ (y : Reached). y.kind) (unary_gives around.structs op (kind_at around x.after) x place (past_kind x.after)).after_is) in
      unary_within located pointer returns takes around.structs op _ x place _ t (one_part place _ scope a f (unary_fine scope.structs op) h m around k n r w at)
  within_step (e.Binary op a c) place f functions scope h m around k n r w at = let x = a.0.0.1 around r in let y = c.0.0.1 around x.after in let p = both_true a.0.1 c.0.1 f in
      let t = node_type _ _ (alike_step (e.Binary op a c) place functions scope h) m scope around k n r w at y.after refl in
      let z = two_parts place _ scope a c p.0 p.1 (binary_fine scope.structs op) h m around k n r w at in
      no_place_within located pointer returns takes around.structs _ (binary op around x y) place _ t (binary_within located pointer returns takes op around x y z.0 z.1)
  within_step (e.Assign op a c) place f functions scope h m around k n r w at = let x = a.0.0.1 around r in let p = both_true a.0.1 c.0.1 f in
      let z = two_parts place _ scope a c p.0 p.1 (λ t u free. any_fine _ _ (assign_fine scope.structs op t u free)) h m around k n r w at in
      assign_within located pointer returns takes op around x (c.0.0.1 around x.after) place _ z.0 z.1
  within_step (e.StepBy up before a) place f functions scope h m around k n r w at =
      stepped_within located pointer returns takes around up before (a.0.0.1 around r) place _ (one_part place _ scope a f (λ t free. any_fine _ _ (step_fine scope.structs t free)) h m around k n r w at)
  within_step (e.Cond c a d) place f functions scope h m around k n r w at = let x = c.0.0.1 around r in let y = a.0.0.1 around x.after in let z = d.0.0.1 around y.after in
      let p = both_true (c.0.1 && a.0.1) d.0.1 f in let q = both_true c.0.1 a.0.1 p.0 in
      let t = node_type _ _ (alike_step (e.Cond c a d) place functions scope h) m scope around k n r w at z.after refl in
      let all = three_parts place _ scope c a d q.0 q.1 p.1 choice_fine h m around k n r w at in
      no_place_within located pointer returns takes around.structs (kind_at around z.after) (chosen_as (sort_of (kind_at around z.after)) x y z) place _ t
      (chosen_within located pointer returns takes around.structs (sort_of (kind_at around z.after)) x y z all.0 all.1 all.2)
  within_step (e.Call name all) place f functions scope h m around k n r w at =
      let t = node_type _ _ (alike_step (e.Call name all) place functions scope h) m scope around k n r w at (find_all (finds all) around r).after refl in
      call_in name all place scope (both_true (is_name name) (every (formeds all)) f).1 h m around k n r w at t
  within_step (e.Index a i) place f functions scope h m around k n r w at = let x = a.0.0.1 around r in let y = i.0.0.1 around x.after in let p = both_true a.0.1 i.0.1 f in
      let t = node_type _ _ (alike_step (e.Index a i) place functions scope h) m scope around k n r w at y.after refl in
      let z = two_parts place _ scope a i p.0 p.1 (index_fine scope.structs) h m around k n r w at in
      a_place_within located pointer returns takes around.structs (kind_at around y.after) (index around (kind_at around y.after) x y) place _ t
      (index_within located pointer returns takes around (kind_at around y.after) x y t z.0 z.1)
  within_step (e.Member a name) place f functions scope h m around k n r w at = let x = a.0.0.1 around r in
      let t = node_type _ _ (alike_step (e.Member a name) place functions scope h) m scope around k n r w at x.after refl in
      let z = one_part place _ scope a (both_true a.0.1 (is_name name) f).0 (member_fine scope.structs name) h m around k n r w at in
      a_place_within located pointer returns takes around.structs (kind_at around x.after) (member around (kind_at around x.after) x name) place _ t
      (member_at_within located pointer returns takes around (struct_of x.type) (place_among (slice_index_or around.members (struct_of x.type) []) name) (kind_at around x.after) (pointer_in x.value) k.within.structs t (pointer_within located pointer returns takes x.value z.value))
  within_step (e.Arrow a name) place f functions scope h m around k n r w at = let x = a.0.0.1 around r in let s = struct_of (target_of x.type) in
      let t = node_type _ _ (alike_step (e.Arrow a name) place functions scope h) m scope around k n r w at x.after refl in
      let z = one_part place _ scope a (both_true a.0.1 (is_name name) f).0 (arrow_fine scope.structs name) h m around k n r w at in
      a_place_within located pointer returns takes around.structs (kind_at around x.after) (arrow around (kind_at around x.after) x name) place _ t
      (member_at_within located pointer returns takes around s (place_among (slice_index_or around.members s []) name) (kind_at around x.after) (pointer_in x.value) k.within.structs t (pointer_within located pointer returns takes x.value z.value))
  within_step (e.Cast base stars a) place f functions scope h m around k n r w at = let x = a.0.0.1 around r in
      let t = node_type _ _ (alike_step (e.Cast base stars a) place functions scope h) m scope around k n r w at x.after refl in
      let z = one_part place _ scope a (both_true (formed_base base && few_stars stars) a.0.1 f).1 (cast_fine scope base stars) h m around k n r w at in
      no_place_within located pointer returns takes around.structs (kind_at around x.after) _ place _ t (cast_within located pointer returns takes (sort_of (kind_at around x.after)) x.type x.value z.value)
  within_step (e.SizeOfKind base stars) place f functions scope h m around k n r w at = let t = node_type _ _ (alike_step (e.SizeOfKind base stars) place functions scope h) m scope around k n r w at r refl in
      no_place_within located pointer returns takes around.structs _ _ place _ t (starred_small around.structs stars (based around base) (based_small around base k.within))
  within_step (e.SizeOfValue a) place f functions scope h m around k n r w at = let x = a.0.0.1 around r in
      let t = node_type _ _ (alike_step (e.SizeOfValue a) place functions scope h) m scope around k n r w at x.after refl in
      no_place_within located pointer returns takes around.structs _ _ place _ t (size_word around.structs x.type (of_value place scope a f h m around k n r w at).type)

  abbrev pub formed_both : Expr → FormedB
  formed_both = fold-Expr FormedA FormedB step_formed struct_formed

  boths_same : (x : Expr) → (formed_both x).0 ≡ both x
  boths_same x = exprs_fused FormedA FormedB BothA BothB step_formed struct_formed step_both struct_both (λ a. a.0) (λ b. b.0) (λ y. refl) (λ y. refl) x

  formeds_same : (x : Expr) → (formed_both x).1 ≡ formed_expr x
  formeds_same x = exprs_fused FormedA FormedB Bool Bool step_formed struct_formed expr_step (λ x. stands x.place && x.kind) (λ a. a.1) (λ b. b.1) (λ y. refl) (λ y. refl) x

  good_step : (y : ExprKind-F GoodA GoodB) → GoodAt (step_formed (bare y))
  good_step y place = (alike_step y place, within_step y place)

  good_struct : (y : Expr-F GoodA GoodB) → Good (struct_formed (bare_exprs_struct FormedA FormedB step_formed struct_formed GoodAt Good y))
  good_struct y = let h = y.kind.1 y.place in (h.0, λ f. h.1 (both_true (stands y.place) y.kind.0.1 f).1)

  -- an expression that is formed and breaks no rule
  pub expressions_within : (x : Expr) → formed_expr x ≡ true → AreWithin (seen x, expression x)
  expressions_within x f = subst (λ check. AreWithin (check, expression x)) (checks_same x) (subst (λ read. AreWithin ((both x).0, read)) (reads_same x) (subst AreWithin (boths_same x)
      ((every_exprs FormedA FormedB step_formed struct_formed GoodAt Good good_step good_struct x).1 (formeds_same x ∙ f))))

  pub effects_within : (x : Expr) (functions : Bool) (scope : Scope) → formed_expr x ≡ true → (seen x functions scope).broken ≡ [] → length scope.functions ≤ 4294967295 → (n : Notes) (around : Around) (r : Reached)
      → Front (meanings_of ((seen x functions scope).after n)) around.meanings → IsAt r (meanings_of n) → MeaningsWithin around.structs (meanings_of ((seen x functions scope).after n)) → around.signatures ≡ signatures_seen scope.functions
      → AroundWithin located returns takes around → EffectWithin located pointer returns takes (expression x around r).effect
  effects_within x functions scope f h few n around r w at types same within = (expressions_within x f functions scope h (meanings_of ((seen x functions scope).after n)) around
      record { front = w; types = types; within = within; few = few; signatures = same } n r (front_itself (meanings_of ((seen x functions scope).after n))) at).effect
