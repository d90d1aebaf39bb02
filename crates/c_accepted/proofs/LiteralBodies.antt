-- The same of initialisers and statements.
use Rattle.std.proofs.Common.{◌≡◌, ℕ, zero, suc, ◌+◌, refl, sym, ap, ◌∙◌, subst, List, [], ◌∷◌, ◌++◌, map, length, length-append, arith}
use Rattle.mx_base.specs.declared.places.Place.{Place}
use Rattle.c_tree.specs.declared.tree.Decl.{Decl}
use Rattle.c_tree.specs.declared.tree.Expr.{Expr}
use Rattle.c_tree.specs.declared.tree.Init.{Init, Init-F, fold-Init}
use Rattle.c_tree.specs.declared.tree.InitKind.{InitKind-F}
use Rattle.c_tree.specs.declared.tree.InitKind.TheOpen as i
use Rattle.c_tree.specs.declared.tree.InitKind.TheFolds as nf
use Rattle.c_tree.proofs.Inductions.{InitA, InitB, bare_inits, every_inits, inits_fused}
use Rattle.c_types.specs.Types.{CType, Void, Int, Pointer, Array, Struct, members_of}
use Rattle.c_types.specs.Layouts.{layout_of, offsets_from}
use Rattle.bounds_plan.specs.meaning.Core.{Effect}
use Rattle.bounds_plan.specs.elaboration.Scalars.{scalars_of, scalar_at}
use Rattle.bounds_plan.specs.elaboration.Types.{kind_of, size_in}
use Rattle.bounds_plan.specs.elaboration.Source.{Reached, Around}
use Rattle.bounds_plan.specs.elaboration.Places.{Lvalue}
use Rattle.bounds_plan.specs.elaboration.Expressions.{find_all, expression}
use Rattle.bounds_plan.specs.elaboration.Initialisers.{Filling, after_one, bytes_of, one_filled, elements_filled, members_filled, many_filled, init_step, initialiser}
use Rattle.bounds_plan.specs.elaboration.Statements.{past_counts}
use Rattle.bounds_plan.specs.elaboration.Functions.{declared_all}
use Rattle.c_accepted.specs.Literals.{text_sizes, IsWholeText}
use Rattle.c_accepted.specs.SourceLiterals.{Sizes, one_sizes, elements_sizes, members_sizes, many_sizes, init_sizes_step, init_sizes, counts_sizes, decls_sizes}
use Rattle.c_accepted.proofs.Closing.{NamesPlace}
use Rattle.c_accepted.proofs.ClosingBodies.{AllNameEffects, append_names, zeros_name, member_zeros_name, text_names, one_names}
use Rattle.c_accepted.proofs.Literals.{Stand, first_stand, second_stand, Texts, expressions_sized}

abbrev FilledA : Type 0
FilledA = Sizes × (Place → Filling)

abbrev pub FilledB : Type 0
FilledB = Sizes × Filling

abbrev step_filled : InitKind-F FilledA FilledB → FilledA
step_filled y = (init_sizes_step (nf.map-InitKind FilledA FilledB Sizes Sizes (λ a. a.0) (λ b. b.0) y), init_step expression (nf.map-InitKind FilledA FilledB (Place → Filling) Filling (λ a. a.1) (λ b. b.1) y))

abbrev struct_filled : Init-F FilledA FilledB → FilledB
struct_filled x = (x.kind.0, x.kind.1 x.place)

pub nothing : (n : ℕ) → n ≡ n + 0
nothing n = omega arith

pub counted : (n m k : ℕ) (xs ys : List ℕ) → m ≡ n + length xs → k ≡ m + length ys → k ≡ n + length (xs ++ ys)
counted n m k xs ys e f = let both = length-append xs ys in omega (arith, e, f, both)

module _ (T : ℕ → ℕ → Type 0) where
  pub then_stand : (n m : ℕ) (xs ys : List ℕ) → m ≡ n + length xs → Stand T n (xs ++ ys) → Stand T m ys
  then_stand n m xs ys e h = subst (λ k. Stand T k ys) (sym e) (second_stand T n xs ys h)

  abbrev pub PlaceNamed : Around → Lvalue → Type 0
  PlaceNamed around = NamesPlace (IsWholeText T around.layout) (λ offset size. Unit {0}) (λ x. Unit {0})

  abbrev pub EffectsNamed : Around → List Effect → Type 0
  EffectsNamed around = AllNameEffects (IsWholeText T around.layout) (λ offset size. Unit {0}) (λ x. Unit {0})

  -- ---- expressions

  pub expression_counts : (x : Expr) (around : Around) (r : Reached) → (expression x around r).after.literal ≡ r.literal + length (text_sizes x)
  expression_counts x = (expressions_sized T x).0

  pub expression_names : (x : Expr) (around : Around) (r : Reached) → Stand T r.literal (text_sizes x) → Texts T around (expression x around r)
  expression_names x = (expressions_sized T x).1

  pub counts_counted : (all : List Expr) (around : Around) (r : Reached) → (find_all (map expression all) around r).after.literal ≡ r.literal + length (counts_sizes all)
  counts_counted [] around r = nothing r.literal
  counts_counted (x ∷ more) around r = counted r.literal (expression x around r).after.literal _ (text_sizes x) (counts_sizes more) (expression_counts x around r) (counts_counted more around (expression x around r).after)

  pub decls_counted : (past : Reached → Reached) → ((r : Reached) → (past r).literal ≡ r.literal) → (all : List Decl) (around : Around) (r : Reached) → (declared_all expression past all around r).after.literal ≡ r.literal + length (decls_sizes all)
  decls_counted past same [] around r = nothing r.literal
  decls_counted past same (d ∷ more) around r = let here = past_counts expression d around r in
      counted r.literal here.literal _ (counts_sizes d.counts) (decls_sizes more) (counts_counted d.counts around r) (decls_counted past same more around (past here) ∙ ap (λ n. n + length (decls_sizes more)) (same here))

  -- ---- initialisers

  abbrev pub FillCounts : FilledB → Type 0
  FillCounts b = (around : Around) (type : CType) (l : Lvalue) (offset : ℕ) (r : Reached) → (b.1 around type l offset r).after.literal ≡ r.literal + length (b.0 around type)

  abbrev pub FillNames : FilledB → Type 0
  FillNames b = (around : Around) (type : CType) (l : Lvalue) → PlaceNamed around l → (offset : ℕ) (r : Reached) → Stand T r.literal (b.0 around type) → EffectsNamed around (b.1 around type l offset r).effects

  abbrev pub AreFilled : FilledB → Type 0
  AreFilled b = FillCounts b × FillNames b

  abbrev AreFilledAt : FilledA → Type 0
  AreFilledAt a = (place : Place) → AreFilled (a.0, a.1 place)

  abbrev GoodA : Type 0
  GoodA = InitA FilledA FilledB step_filled struct_filled AreFilledAt AreFilled

  abbrev GoodB : Type 0
  GoodB = InitB FilledA FilledB step_filled struct_filled AreFilledAt AreFilled

  abbrev bare : InitKind-F GoodA GoodB → InitKind-F FilledA FilledB
  bare = bare_inits FilledA FilledB step_filled struct_filled AreFilledAt AreFilled

  abbrev sizes : List GoodB → List Sizes
  sizes all = map (λ b. b.0) (map (λ y. y.0) all)

  abbrev fills : List GoodB → List Filling
  fills all = map (λ b. b.1) (map (λ y. y.0) all)

  one_counts : (type : CType) (x : Expr) (around : Around) (r : Reached) → (after_one type r (expression x around r).after).literal ≡ r.literal + length (one_sizes type (text_sizes x))
  one_counts Void x around r = expression_counts x around r
  one_counts (Int kind) x around r = expression_counts x around r
  one_counts (Pointer target) x around r = expression_counts x around r
  one_counts (Array element count) x around r = nothing r.literal
  one_counts (Struct number) x around r = expression_counts x around r

  elements_counts : (all : List GoodB) (around : Around) (element : CType) (place : Place) (size count : ℕ) (l : Lvalue) (offset : ℕ) (r : Reached)
      → (elements_filled (fills all) around element place size count l offset r).after.literal ≡ r.literal + length (elements_sizes (sizes all) around element count)
  elements_counts [] around element place size count l offset r = nothing r.literal
  elements_counts (f ∷ more) around element place size zero l offset r = nothing r.literal
  elements_counts (f ∷ more) around element place size (suc n) l offset r = let x = f.0.1 around element l offset r in
      counted r.literal x.after.literal _ (f.0.0 around element) (elements_sizes (sizes more) around element n) (f.1.0 around element l offset r) (elements_counts more around element place size n l (offset + size) x.after)

  members_counts : (all : List GoodB) (around : Around) (place : Place) (types : List CType) (offsets : List ℕ) (l : Lvalue) (offset : ℕ) (r : Reached)
      → (members_filled (fills all) around place types offsets l offset r).after.literal ≡ r.literal + length (members_sizes (sizes all) around types offsets)
  members_counts [] around place types offsets l offset r = nothing r.literal
  members_counts (f ∷ more) around place [] offsets l offset r = nothing r.literal
  members_counts (f ∷ more) around place (t ∷ ts) [] l offset r = nothing r.literal
  members_counts (f ∷ more) around place (t ∷ ts) (o ∷ os) l offset r = let x = f.0.1 around t l (offset + o) r in
      counted r.literal x.after.literal _ (f.0.0 around t) (members_sizes (sizes more) around ts os) (f.1.0 around t l (offset + o) r) (members_counts more around place ts os l offset x.after)

  many_counts : (all : List GoodB) (place : Place) → FillCounts (many_sizes (sizes all), many_filled (fills all) place)
  many_counts all place around Void l offset r = nothing r.literal
  many_counts all place around (Int kind) l offset r = nothing r.literal
  many_counts all place around (Pointer target) l offset r = nothing r.literal
  many_counts all place around (Array element count) l offset r = elements_counts all around element place (size_in around.structs element) count l offset r
  many_counts all place around (Struct number) l offset r = members_counts all around place (members_of around.structs number) (offsets_from 0 (map (layout_of around.structs) (members_of around.structs number))) l offset r

  one_named : (type : CType) (x : Expr) (place : Place) (around : Around) (l : Lvalue) → PlaceNamed around l → (offset : ℕ) (r : Reached) → Stand T r.literal (one_sizes type (text_sizes x)) → EffectsNamed around (one_filled around type place l offset (expression x around r))
  one_named Void x place around l p offset r h = one_names _ _ _ around Void place l offset (expression x around r) p (expression_names x around r h)
  one_named (Int kind) x place around l p offset r h = one_names _ _ _ around (Int kind) place l offset (expression x around r) p (expression_names x around r h)
  one_named (Pointer target) x place around l p offset r h = one_names _ _ _ around (Pointer target) place l offset (expression x around r) p (expression_names x around r h)
  one_named (Array element count) x place around l p offset r h = text_names _ _ _ place (kind_of element) count l offset (size_in around.structs element) (bytes_of (expression x around r).text) p
  one_named (Struct number) x place around l p offset r h = one_names _ _ _ around (Struct number) place l offset (expression x around r) p (expression_names x around r h)

  elements_named : (all : List GoodB) (around : Around) (element : CType) (place : Place) (size count : ℕ) (l : Lvalue) → PlaceNamed around l → (offset : ℕ) (r : Reached) → Stand T r.literal (elements_sizes (sizes all) around element count)
      → EffectsNamed around (elements_filled (fills all) around element place size count l offset r).effects
  elements_named [] around element place size count l p offset r h = zeros_name _ _ _ (map (scalar_at offset) (scalars_of around.structs (Array element count))) place l p
  elements_named (f ∷ more) around element place size zero l p offset r h = tt
  elements_named (f ∷ more) around element place size (suc n) l p offset r h = let x = f.0.1 around element l offset r in let xs = f.0.0 around element in let ys = elements_sizes (sizes more) around element n in
      append_names _ _ _ x.effects _ (f.1.1 around element l p offset r (first_stand T r.literal xs ys h))
      (elements_named more around element place size n l p (offset + size) x.after (then_stand r.literal x.after.literal xs ys (f.1.0 around element l offset r) h))

  members_named : (all : List GoodB) (around : Around) (place : Place) (types : List CType) (offsets : List ℕ) (l : Lvalue) → PlaceNamed around l → (offset : ℕ) (r : Reached) → Stand T r.literal (members_sizes (sizes all) around types offsets)
      → EffectsNamed around (members_filled (fills all) around place types offsets l offset r).effects
  members_named [] around place types offsets l p offset r h = member_zeros_name _ _ _ around.structs place types offsets l offset p
  members_named (f ∷ more) around place [] offsets l p offset r h = tt
  members_named (f ∷ more) around place (t ∷ ts) [] l p offset r h = tt
  members_named (f ∷ more) around place (t ∷ ts) (o ∷ os) l p offset r h = let x = f.0.1 around t l (offset + o) r in let xs = f.0.0 around t in let ys = members_sizes (sizes more) around ts os in
      append_names _ _ _ x.effects _ (f.1.1 around t l p (offset + o) r (first_stand T r.literal xs ys h))
      (members_named more around place ts os l p offset x.after (then_stand r.literal x.after.literal xs ys (f.1.0 around t l (offset + o) r) h))

  many_named : (all : List GoodB) (place : Place) → FillNames (many_sizes (sizes all), many_filled (fills all) place)
  many_named all place around Void l p offset r h = tt
  many_named all place around (Int kind) l p offset r h = tt
  many_named all place around (Pointer target) l p offset r h = tt
  many_named all place around (Array element count) l p offset r h = elements_named all around element place (size_in around.structs element) count l p offset r h
  many_named all place around (Struct number) l p offset r h = members_named all around place (members_of around.structs number) (offsets_from 0 (map (layout_of around.structs) (members_of around.structs number))) l p offset r h

  filled_step : (y : InitKind-F GoodA GoodB) → AreFilledAt (step_filled (bare y))
  filled_step (i.One x) place = (λ around type l offset r. one_counts type x around r, λ around type l p offset r h. one_named type x place around l p offset r h)
  filled_step (i.Many all) place = (many_counts all place, many_named all place)

  init_sizes_same : (x : Init) → (fold-Init FilledA FilledB step_filled struct_filled x).0 ≡ init_sizes x
  init_sizes_same x = inits_fused FilledA FilledB Sizes Sizes step_filled struct_filled init_sizes_step (λ x. x.kind) (λ a. a.0) (λ b. b.0) (λ y. refl) (λ y. refl) x

  fills_same : (x : Init) → (fold-Init FilledA FilledB step_filled struct_filled x).1 ≡ initialiser expression x
  fills_same x = inits_fused FilledA FilledB (Place → Filling) Filling step_filled struct_filled (init_step expression) (λ x. x.kind x.place) (λ a. a.1) (λ b. b.1) (λ y. refl) (λ y. refl) x

  pub initialisers_sized : (x : Init) → AreFilled (init_sizes x, initialiser expression x)
  initialisers_sized x = subst (λ s. AreFilled (s, initialiser expression x)) (init_sizes_same x) (subst (λ fill. AreFilled ((fold-Init FilledA FilledB step_filled struct_filled x).0, fill)) (fills_same x)
      (every_inits FilledA FilledB step_filled struct_filled AreFilledAt AreFilled filled_step (λ y. y.kind.1 y.place) x))
