-- An expression names each literal with the size of its text.
use Rattle.std.proofs.Common.{◌≡◌, inl, inr, ℕ, suc, ◌+◌, refl, sym, ap, ◌∙◌, subst, List, [], ◌∷◌, ◌++◌, map, length, length-append, arith}
use Rattle.std.specs.Prelude.{Option, None, Some, slice_get}
use Rattle.mx_base.specs.declared.places.Place.{Place}
use Rattle.mx_base.specs.declared.operators.Arithmetic.{Arithmetic}
use Rattle.c_tree.specs.declared.tree.Expr.{Expr, Expr-F, fold-Expr}
use Rattle.c_tree.specs.declared.tree.ExprKind.{ExprKind-F}
use Rattle.c_tree.specs.declared.tree.ExprKind.TheOpen as e
use Rattle.c_tree.specs.declared.tree.ExprKind.TheFolds as ef
use Rattle.c_tree.proofs.Inductions.{ExprA, ExprB, bare_exprs, every_exprs, exprs_fused}
use Rattle.c_types.specs.Types.{CType}
use Rattle.c_check_rules.specs.declared.predeclared.Bind.{Bind}
use Rattle.c_check_rules.specs.declared.predeclared.Bind.TheVariants as d
use Rattle.bounds_plan.specs.elaboration.Types.{sort_of}
use Rattle.bounds_plan.specs.elaboration.Source.{Reached, Around, kind_at, bind_at, past_kind, past_name}
use Rattle.bounds_plan.specs.elaboration.Expressions.{Found, Reading, named, called, find_all, assign_by, binary, chosen_as, member, arrow, index, step, expression}
use Rattle.c_accepted.specs.Literals.{joined, sizes_step, text_sizes, HasSize, IsWholeText, NamesTexts}
use Rattle.c_accepted.proofs.Gives.{named_gives, unary_gives}
use Rattle.c_accepted.proofs.Sizing.{variable_named}
use Rattle.c_accepted.proofs.Closing.{NamesFound, AllFound_name, no_place_names, a_place_names, unary_names, binary_names, chosen_names, assign_names, stepped_names, cast_names, called_names, index_names, pointer_names}

-- ---- the two folds beside each other

abbrev SizedA : Type 0
SizedA = List ℕ × (Place → Reading)

abbrev pub SizedB : Type 0
SizedB = List ℕ × Reading

abbrev step_sized : ExprKind-F SizedA SizedB → SizedA
step_sized y = (sizes_step (ef.map-ExprKind SizedA SizedB (List ℕ) (List ℕ) (λ a. a.0) (λ b. b.0) y), step (ef.map-ExprKind SizedA SizedB (Place → Reading) Reading (λ a. a.1) (λ b. b.1) y))

abbrev struct_sized : Expr-F SizedA SizedB → SizedB
struct_sized x = (x.kind.0, x.kind.1 x.place)

-- ---- facts of literals that follow one another

module _ (T : ℕ → ℕ → Type 0) where
  abbrev pub Stand : ℕ → List ℕ → Type 0
  Stand n [] = Unit {0}
  Stand n (size ∷ more) = T n size × Stand (suc n) more

  pub all_stand : (n : ℕ) (sizes : List ℕ) → ((at size : ℕ) → slice_get sizes at ≡ Some size → T (n + at) size) → Stand n sizes
  all_stand n [] h = tt
  all_stand n (size ∷ more) h = let here : n + 0 ≡ n = omega arith in (
    subst (λ k. T k size) here (h 0 size refl),
    all_stand (suc n) more (λ at other e. let next : n + suc at ≡ suc n + at = omega arith in subst (λ k. T k other) next (h (suc at) other e)),
  )

  pub first_stand : (n : ℕ) (xs ys : List ℕ) → Stand n (xs ++ ys) → Stand n xs
  first_stand n [] ys h = tt
  first_stand n (x ∷ xs) ys h = (h.0, first_stand (suc n) xs ys h.1)

  pub second_stand : (n : ℕ) (xs ys : List ℕ) → Stand n (xs ++ ys) → Stand (n + length xs) ys
  second_stand n [] ys h = let here : n ≡ n + 0 = omega arith in subst (λ k. Stand k ys) here h
  second_stand n (x ∷ xs) ys h = let next : suc n + length xs ≡ n + suc (length xs) = omega arith in subst (λ k. Stand k ys) next (second_stand (suc n) xs ys h.1)

  -- ---- what an expression names and counts

  abbrev pub Texts : Around → Found → Type 0
  Texts around = NamesFound (IsWholeText T around.layout) (λ offset size. Unit {0}) (λ x. Unit {0})

  abbrev pub Counts : SizedB → Type 0
  Counts b = (around : Around) (r : Reached) → (b.1 around r).after.literal ≡ r.literal + length b.0

  abbrev pub NamesAsSized : SizedB → Type 0
  NamesAsSized b = (around : Around) (r : Reached) → Stand r.literal b.0 → Texts around (b.1 around r)

  abbrev pub AreSized : SizedB → Type 0
  AreSized b = Counts b × NamesAsSized b

  abbrev AreSizedAt : SizedA → Type 0
  AreSizedAt a = (place : Place) → AreSized (a.0, a.1 place)

  abbrev GoodA : Type 0
  GoodA = ExprA SizedA SizedB step_sized struct_sized AreSizedAt AreSized

  abbrev GoodB : Type 0
  GoodB = ExprB SizedA SizedB step_sized struct_sized AreSizedAt AreSized

  abbrev bare : ExprKind-F GoodA GoodB → ExprKind-F SizedA SizedB
  bare = bare_exprs SizedA SizedB step_sized struct_sized AreSizedAt AreSized

  abbrev sizes : List GoodB → List (List ℕ)
  sizes all = map (λ b. b.0) (map (λ y. y.0) all)

  abbrev reads : List GoodB → List Reading
  reads all = map (λ b. b.1) (map (λ y. y.0) all)

  -- ---- counts

  nothing_counted : (n : ℕ) → n ≡ n + 0
  nothing_counted n = omega arith

  counts_two : (a c : GoodB) (around : Around) (r : Reached) → (c.0.1 around (a.0.1 around r).after).after.literal ≡ r.literal + length (a.0.0 ++ c.0.0)
  counts_two a c around r = let one = a.1.0 around r in let two = c.1.0 around (a.0.1 around r).after in let both = length-append a.0.0 c.0.0 in omega (arith, one, two, both)

  counts_all : (all : List GoodB) (around : Around) (r : Reached) → (find_all (reads all) around r).after.literal ≡ r.literal + length (joined (sizes all))
  counts_all [] around r = nothing_counted r.literal
  counts_all (a ∷ more) around r = let one = a.1.0 around r in let two = counts_all more around (a.0.1 around r).after in let both = length-append a.0.0 (joined (sizes more)) in omega (arith, one, two, both)

  after_assign : (op : Option Arithmetic) (around : Around) (a b : Found) (place : Place) (after : Reached) → (assign_by op around a b place after).after ≡ after
  after_assign None around a b place after = refl
  after_assign (Some op) around a b place after = refl

  counts_step : (y : ExprKind-F GoodA GoodB) (place : Place) → Counts ((step_sized (bare y)).0, (step_sized (bare y)).1 place)
  counts_step (e.Number n kind) place around r = nothing_counted r.literal
  counts_step (e.Text bytes) place around r = refl
  counts_step (e.Var name) place around r = ap (λ (x : Reached). x.literal) (named_gives around (kind_at around r) (bind_at around r) place (past_name (past_kind r))).after_is ∙ nothing_counted r.literal
  counts_step (e.Unary op a) place around r = ap (λ (x : Reached). x.literal) (unary_gives around.structs op (kind_at around (a.0.1 around r).after) (a.0.1 around r) place (past_kind (a.0.1 around r).after)).after_is ∙ a.1.0 around r
  counts_step (e.Binary op a c) place around r = counts_two a c around r
  counts_step (e.Assign op a c) place around r = let x = a.0.1 around r in let y = c.0.1 around x.after in ap (λ (x : Reached). x.literal) (after_assign op around x y place (past_kind y.after)) ∙ counts_two a c around r
  counts_step (e.StepBy up before a) place around r = a.1.0 around r
  counts_step (e.Cond c a d) place around r = let one = c.1.0 around r in let others = counts_two a d around (c.0.1 around r).after in let both = length-append c.0.0 (a.0.0 ++ d.0.0) in omega (arith, one, others, both)
  counts_step (e.Call name all) place around r = counts_all all around r
  counts_step (e.Index a i) place around r = counts_two a i around r
  counts_step (e.Member a name) place around r = a.1.0 around r
  counts_step (e.Arrow a name) place around r = a.1.0 around r
  counts_step (e.Cast base stars a) place around r = a.1.0 around r
  counts_step (e.SizeOfKind base stars) place around r = nothing_counted r.literal
  counts_step (e.SizeOfValue a) place around r = nothing_counted r.literal

  -- ---- names

  after_first : (a : GoodB) (ys : List ℕ) (around : Around) (r : Reached) → Stand r.literal (a.0.0 ++ ys) → Stand (a.0.1 around r).after.literal ys
  after_first a ys around r h = subst (λ n. Stand n ys) (sym (a.1.0 around r)) (second_stand r.literal a.0.0 ys h)

  names_first : (a : GoodB) (ys : List ℕ) (around : Around) (r : Reached) → Stand r.literal (a.0.0 ++ ys) → Texts around (a.0.1 around r)
  names_first a ys around r h = a.1.1 around r (first_stand r.literal a.0.0 ys h)

  names_second : (a c : GoodB) (around : Around) (r : Reached) → Stand r.literal (a.0.0 ++ c.0.0) → Texts around (c.0.1 around (a.0.1 around r).after)
  names_second a c around r h = c.1.1 around (a.0.1 around r).after (after_first a c.0.0 around r h)

  names_all : (all : List GoodB) (around : Around) (r : Reached) → Stand r.literal (joined (sizes all)) → AllFound_name (IsWholeText T around.layout) (λ offset size. Unit {0}) (λ x. Unit {0}) (find_all (reads all) around r).all
  names_all [] around r h = tt
  names_all (a ∷ more) around r h = (names_first a (joined (sizes more)) around r h, names_all more around (a.0.1 around r).after (after_first a (joined (sizes more)) around r h))

  names_bound : (around : Around) (type : CType) (bind : Bind) (place : Place) (after : Reached) → Texts around (named around type bind place after)
  names_bound around type (d.Global number) place after = a_place_names _ _ _ type _ place after (inl record { number = number; at = refl; begins = refl })
  names_bound around type (d.Local number) place after = a_place_names _ _ _ type _ place after (variable_named (IsWholeText T around.layout) around.structs around.variables around.stands 0 number)
  names_bound around type (d.Fun number) place after = no_place_names _ _ _ type _ place after (inr (inl record { number = number; at = refl; begins = refl; has = refl }))
  names_bound around type (d.Service service) place after = no_place_names _ _ _ type _ place after tt
  names_bound around type (d.Builtin builtin) place after = no_place_names _ _ _ type _ place after tt

  names_step : (y : ExprKind-F GoodA GoodB) (place : Place) → NamesAsSized ((step_sized (bare y)).0, (step_sized (bare y)).1 place)
  names_step (e.Number k kind) place around r h = no_place_names _ _ _ _ _ place _ tt
  names_step (e.Text bytes) place around r h = let there = inr (inr record { number = r.literal; at = refl; begins = refl; has = h.0 }) in record { value = there; lvalue = there; effect = there }
  names_step (e.Var name) place around r h = names_bound around (kind_at around r) (bind_at around r) place _
  names_step (e.Unary op a) place around r h = unary_names _ _ _ op _ (a.0.1 around r) place _ (a.1.1 around r h)
  names_step (e.Binary op a c) place around r h = let x = a.0.1 around r in let y = c.0.1 around x.after in
      no_place_names _ _ _ _ (binary op around x y) place _ (binary_names _ _ _ op around x y (names_first a c.0.0 around r h) (names_second a c around r h))
  names_step (e.Assign op a c) place around r h = let x = a.0.1 around r in assign_names _ _ _ op around x (c.0.1 around x.after) place _ (names_first a c.0.0 around r h) (names_second a c around r h)
  names_step (e.StepBy up before a) place around r h = stepped_names _ _ _ around up before (a.0.1 around r) place _ (a.1.1 around r h)
  names_step (e.Cond c a d) place around r h = let x = c.0.1 around r in let y = a.0.1 around x.after in let z = d.0.1 around y.after in let others = after_first c (a.0.0 ++ d.0.0) around r h in
      no_place_names _ _ _ (kind_at around z.after) (chosen_as (sort_of (kind_at around z.after)) x y z) place _
      (chosen_names _ _ _ (sort_of (kind_at around z.after)) x y z (names_first c (a.0.0 ++ d.0.0) around r h) (names_first a d.0.0 around x.after others) (names_second a d around x.after others))
  names_step (e.Call name all) place around r h = let xs = find_all (reads all) around r in
      no_place_names _ _ _ (kind_at around xs.after) (called around (kind_at around xs.after) (bind_at around xs.after) xs.all) place _ (called_names _ _ _ around (kind_at around xs.after) (bind_at around xs.after) xs.all (names_all all around r h))
  names_step (e.Index a i) place around r h = let x = a.0.1 around r in let y = i.0.1 around x.after in
      a_place_names _ _ _ (kind_at around y.after) (index around (kind_at around y.after) x y) place _ (index_names _ _ _ around (kind_at around y.after) x y (names_first a i.0.0 around r h) (names_second a i around r h))
  names_step (e.Member a name) place around r h = let x = a.0.1 around r in a_place_names _ _ _ (kind_at around x.after) (member around (kind_at around x.after) x name) place _ (pointer_names _ _ _ x.value (a.1.1 around r h).value)
  names_step (e.Arrow a name) place around r h = let x = a.0.1 around r in a_place_names _ _ _ (kind_at around x.after) (arrow around (kind_at around x.after) x name) place _ (pointer_names _ _ _ x.value (a.1.1 around r h).value)
  names_step (e.Cast base stars a) place around r h = let x = a.0.1 around r in no_place_names _ _ _ (kind_at around x.after) _ place _ (cast_names _ _ _ (sort_of (kind_at around x.after)) x.type x.value (a.1.1 around r h).value)
  names_step (e.SizeOfKind base stars) place around r h = no_place_names _ _ _ _ _ place _ tt
  names_step (e.SizeOfValue a) place around r h = no_place_names _ _ _ _ _ place _ tt

  -- ---- expressions

  sized_step : (y : ExprKind-F GoodA GoodB) → AreSizedAt (step_sized (bare y))
  sized_step y place = (counts_step y place, names_step y place)

  sizes_same : (x : Expr) → (fold-Expr SizedA SizedB step_sized struct_sized x).0 ≡ text_sizes x
  sizes_same x = exprs_fused SizedA SizedB (List ℕ) (List ℕ) step_sized struct_sized sizes_step (λ x. x.kind) (λ a. a.0) (λ b. b.0) (λ y. refl) (λ y. refl) x

  reads_same : (x : Expr) → (fold-Expr SizedA SizedB step_sized struct_sized x).1 ≡ expression x
  reads_same x = exprs_fused SizedA SizedB (Place → Reading) Reading step_sized struct_sized step (λ x. x.kind x.place) (λ a. a.1) (λ b. b.1) (λ y. refl) (λ y. refl) x

  pub expressions_sized : (x : Expr) → AreSized (text_sizes x, expression x)
  expressions_sized x = subst (λ s. AreSized (s, expression x)) (sizes_same x) (subst (λ read. AreSized ((fold-Expr SizedA SizedB step_sized struct_sized x).0, read)) (reads_same x)
      (every_exprs SizedA SizedB step_sized struct_sized AreSizedAt AreSized sized_step (λ y. y.kind.1 y.place) x))

pub effects_sized : (x : Expr) (around : Around) (r : Reached) → NamesTexts r.literal (text_sizes x) around.layout (expression x around r).effect
effects_sized x around r = let T = HasSize r.literal (text_sizes x) in ((expressions_sized T x).1 around r (all_stand T r.literal (text_sizes x) (λ at size e. record { place = at; at = refl; known = e }))).effect

pub literals_counted : (x : Expr) (around : Around) (r : Reached) → (expression x around r).after.literal ≡ r.literal + length (text_sizes x)
literals_counted x = (expressions_sized (λ n size. Unit {0}) x).0
