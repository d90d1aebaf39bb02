-- A fact of what folds over trees give, by induction: a step that makes the fact of a node from the facts of its children.
use Rattle.std.proofs.Common.{◌≡◌, ap, sym, ◌∙◌, subst, refl, List, [], ◌∷◌, map}
use Rattle.std.specs.Prelude.{None, Some}
use Rattle.c_tree.specs.declared.tree.Expr.{Expr, Expr-F, fold-Expr, fold-roll-Expr, map_is-Expr}
use Rattle.c_tree.specs.declared.tree.ExprKind.{ExprKind, ExprKind-F, fold-ExprKind, fold-roll-ExprKind, map_is-ExprKind, roll-ExprKind}
use Rattle.c_tree.specs.declared.tree.ExprKind.TheFolds as ef
use Rattle.c_tree.specs.declared.tree.ExprKind.TheBlock as eb
use Rattle.c_tree.specs.declared.tree.ExprKind.TheOpen as e
use Rattle.c_tree.specs.declared.tree.Init.{Init, Init-F, fold-Init, fold-roll-Init, map_is-Init}
use Rattle.c_tree.specs.declared.tree.InitKind.{InitKind, InitKind-F, fold-InitKind, fold-roll-InitKind, map_is-InitKind, roll-InitKind}
use Rattle.c_tree.specs.declared.tree.InitKind.TheFolds as nf
use Rattle.c_tree.specs.declared.tree.InitKind.TheBlock as nb
use Rattle.c_tree.specs.declared.tree.InitKind.TheOpen as n
use Rattle.c_tree.specs.declared.tree.Stmt.{Stmt, Stmt-F, fold-Stmt, fold-roll-Stmt, map_is-Stmt}
use Rattle.c_tree.specs.declared.tree.StmtKind.{StmtKind, StmtKind-F, fold-StmtKind, fold-roll-StmtKind, map_is-StmtKind, roll-StmtKind}
use Rattle.c_tree.specs.declared.tree.StmtKind.TheFolds as sf
use Rattle.c_tree.specs.declared.tree.StmtKind.TheBlock as sb
use Rattle.c_tree.specs.declared.tree.StmtKind.TheOpen as s
use denote.Hole.Carrier.{fold, roll}
use denote.Hole.Recursion.{fold_unique}
use Rattle.c_tree.proofs.Laid.{exprs_laid, inits_laid, stmts_laid}

maps_join : {Y Z V : Type 0} (g : Y → Z) (h : Z → V) (ys : List Y) → map h (map g ys) ≡ map (λ y. h (g y)) ys
maps_join g h [] = refl
maps_join g h (y ∷ ys) = ap (λ zs. h (g y) ∷ zs) (maps_join g h ys)

-- ---- Expr

module _ (Y Y' Z Z' V V' : Type 0) (g : Y → Z) (g' : Y' → Z') (h : Z → V) (h' : Z' → V') where
  exprs_join : (x : ExprKind-F Y Y') → ef.map-ExprKind Z Z' V V' h h' (ef.map-ExprKind Y Y' Z Z' g g' x) ≡ ef.map-ExprKind Y Y' V V' (λ y. h (g y)) (λ y. h' (g' y)) x
  exprs_join (e.Number n kind) = refl
  exprs_join (e.Text bytes) = refl
  exprs_join (e.Var name) = refl
  exprs_join (e.Unary op a) = refl
  exprs_join (e.Binary op a c) = refl
  exprs_join (e.Assign op a c) = refl
  exprs_join (e.StepBy up before a) = refl
  exprs_join (e.Cond c a d) = refl
  exprs_join (e.Call name all) = ap (λ zs. e.Call name zs) (maps_join g' h' all)
  exprs_join (e.Index a i) = refl
  exprs_join (e.Member a name) = refl
  exprs_join (e.Arrow a name) = refl
  exprs_join (e.Cast base stars a) = refl
  exprs_join (e.SizeOfKind base stars) = refl
  exprs_join (e.SizeOfValue a) = refl

module _ (A B : Type 0) (f : ExprKind-F A B → A) (g : Expr-F A B → B) (GoodA : A → Type 0) (GoodB : B → Type 0) where
  abbrev pub ExprA : Type 0
  ExprA = (a : A) × GoodA a

  abbrev pub ExprB : Type 0
  ExprB = (b : B) × GoodB b

  -- a layer without the facts of its children
  abbrev pub bare_exprs : ExprKind-F ExprA ExprB → ExprKind-F A B
  bare_exprs = ef.map-ExprKind ExprA ExprB A B (λ y. y.0) (λ y. y.0)

  abbrev pub bare_exprs_struct : Expr-F ExprA ExprB → Expr-F A B
  bare_exprs_struct = ef.map-Expr ExprA ExprB A B (λ y. y.0) (λ y. y.0)

  module _ (good : (y : ExprKind-F ExprA ExprB) → GoodA (f (bare_exprs y))) (good_struct : (y : Expr-F ExprA ExprB) → GoodB (g (bare_exprs_struct y))) where
    abbrev step_exprs : ExprKind-F ExprA ExprB → ExprA
    step_exprs y = (f (bare_exprs y), good y)

    abbrev step_exprs_struct : Expr-F ExprA ExprB → ExprB
    step_exprs_struct y = (g (bare_exprs_struct y), good_struct y)

    abbrev values_exprs : (i : eb.the_members) → eb.the_family i → ef.family A B i
    values_exprs eb.member-ExprKind t = (fold-ExprKind ExprA ExprB step_exprs step_exprs_struct t).0
    values_exprs eb.member-Expr t = (fold-Expr ExprA ExprB step_exprs step_exprs_struct t).0

    commutes_exprs : (i : eb.the_members) (x : (eb.the_bodies i).Of eb.the_family) → values_exprs i (roll eb.the_members eb.the_sigs eb.the_carrier i x) ≡ ef.steps A B f g i ((eb.the_bodies i).map eb.the_family (ef.family A B) values_exprs x)
    unfolding roll-ExprKind roll
    commutes_exprs eb.member-ExprKind x = ap (λ y. y.0) (fold-roll-ExprKind ExprA ExprB step_exprs step_exprs_struct x)
        ∙ (ap f (exprs_join ExprKind Expr ExprA ExprB A B (fold-ExprKind ExprA ExprB step_exprs step_exprs_struct) (fold-Expr ExprA ExprB step_exprs step_exprs_struct) (λ y. y.0) (λ y. y.0) x)
        ∙ ap f (sym (map_is-ExprKind eb.the_family (ef.family A B) values_exprs x)))
    commutes_exprs eb.member-Expr x = ap (λ y. y.0) (fold-roll-Expr ExprA ExprB step_exprs step_exprs_struct x)
        ∙ ap g (sym (map_is-Expr eb.the_family (ef.family A B) values_exprs x))

    same_exprs : (t : Expr) → (fold-Expr ExprA ExprB step_exprs step_exprs_struct t).0 ≡ fold-Expr A B f g t
    unfolding fold
    same_exprs t = fold_unique eb.the_members eb.the_sigs eb.the_carrier (ef.family A B) (ef.steps A B f g) values_exprs commutes_exprs eb.member-Expr t ∙ sym (exprs_laid A B f g t)

    pub every_exprs : (t : Expr) → GoodB (fold-Expr A B f g t)
    every_exprs t = subst GoodB (same_exprs t) (fold-Expr ExprA ExprB step_exprs step_exprs_struct t).1

-- a fold whose results are mapped to those of another one
module _ (A B A' B' : Type 0) (f : ExprKind-F A B → A) (g : Expr-F A B → B) (f' : ExprKind-F A' B' → A') (g' : Expr-F A' B' → B') (h : A → A') (h' : B → B') where
  module _ (here : (y : ExprKind-F A B) → h (f y) ≡ f' (ef.map-ExprKind A B A' B' h h' y)) (struct : (y : Expr-F A B) → h' (g y) ≡ g' (ef.map-Expr A B A' B' h h' y)) where
    abbrev mapped_exprs : (i : eb.the_members) → eb.the_family i → ef.family A' B' i
    mapped_exprs eb.member-ExprKind t = h (fold-ExprKind A B f g t)
    mapped_exprs eb.member-Expr t = h' (fold-Expr A B f g t)

    goes_on_exprs : (i : eb.the_members) (x : (eb.the_bodies i).Of eb.the_family) → mapped_exprs i (roll eb.the_members eb.the_sigs eb.the_carrier i x) ≡ ef.steps A' B' f' g' i ((eb.the_bodies i).map eb.the_family (ef.family A' B') mapped_exprs x)
    unfolding roll-ExprKind roll
    goes_on_exprs eb.member-ExprKind x = ap h (fold-roll-ExprKind A B f g x) ∙ (here (ef.map-ExprKind ExprKind Expr A B (fold-ExprKind A B f g) (fold-Expr A B f g) x)
        ∙ (ap f' (exprs_join ExprKind Expr A B A' B' (fold-ExprKind A B f g) (fold-Expr A B f g) h h' x) ∙ ap f' (sym (map_is-ExprKind eb.the_family (ef.family A' B') mapped_exprs x))))
    goes_on_exprs eb.member-Expr x = ap h' (fold-roll-Expr A B f g x) ∙ (struct (ef.map-Expr ExprKind Expr A B (fold-ExprKind A B f g) (fold-Expr A B f g) x)
        ∙ ap g' (sym (map_is-Expr eb.the_family (ef.family A' B') mapped_exprs x)))

    pub exprs_fused : (t : Expr) → h' (fold-Expr A B f g t) ≡ fold-Expr A' B' f' g' t
    unfolding fold
    exprs_fused t = fold_unique eb.the_members eb.the_sigs eb.the_carrier (ef.family A' B') (ef.steps A' B' f' g') mapped_exprs goes_on_exprs eb.member-Expr t ∙ sym (exprs_laid A' B' f' g' t)

-- ---- Init

module _ (Y Y' Z Z' V V' : Type 0) (g : Y → Z) (g' : Y' → Z') (h : Z → V) (h' : Z' → V') where
  inits_join : (x : InitKind-F Y Y') → nf.map-InitKind Z Z' V V' h h' (nf.map-InitKind Y Y' Z Z' g g' x) ≡ nf.map-InitKind Y Y' V V' (λ y. h (g y)) (λ y. h' (g' y)) x
  inits_join (n.One x) = refl
  inits_join (n.Many all) = ap (λ zs. n.Many zs) (maps_join g' h' all)

module _ (A B : Type 0) (f : InitKind-F A B → A) (g : Init-F A B → B) (GoodA : A → Type 0) (GoodB : B → Type 0) where
  abbrev pub InitA : Type 0
  InitA = (a : A) × GoodA a

  abbrev pub InitB : Type 0
  InitB = (b : B) × GoodB b

  -- a layer without the facts of its children
  abbrev pub bare_inits : InitKind-F InitA InitB → InitKind-F A B
  bare_inits = nf.map-InitKind InitA InitB A B (λ y. y.0) (λ y. y.0)

  abbrev pub bare_inits_struct : Init-F InitA InitB → Init-F A B
  bare_inits_struct = nf.map-Init InitA InitB A B (λ y. y.0) (λ y. y.0)

  module _ (good : (y : InitKind-F InitA InitB) → GoodA (f (bare_inits y))) (good_struct : (y : Init-F InitA InitB) → GoodB (g (bare_inits_struct y))) where
    abbrev step_inits : InitKind-F InitA InitB → InitA
    step_inits y = (f (bare_inits y), good y)

    abbrev step_inits_struct : Init-F InitA InitB → InitB
    step_inits_struct y = (g (bare_inits_struct y), good_struct y)

    abbrev values_inits : (i : nb.the_members) → nb.the_family i → nf.family A B i
    values_inits nb.member-InitKind t = (fold-InitKind InitA InitB step_inits step_inits_struct t).0
    values_inits nb.member-Init t = (fold-Init InitA InitB step_inits step_inits_struct t).0

    commutes_inits : (i : nb.the_members) (x : (nb.the_bodies i).Of nb.the_family) → values_inits i (roll nb.the_members nb.the_sigs nb.the_carrier i x) ≡ nf.steps A B f g i ((nb.the_bodies i).map nb.the_family (nf.family A B) values_inits x)
    unfolding roll-InitKind roll
    commutes_inits nb.member-InitKind x = ap (λ y. y.0) (fold-roll-InitKind InitA InitB step_inits step_inits_struct x)
        ∙ (ap f (inits_join InitKind Init InitA InitB A B (fold-InitKind InitA InitB step_inits step_inits_struct) (fold-Init InitA InitB step_inits step_inits_struct) (λ y. y.0) (λ y. y.0) x)
        ∙ ap f (sym (map_is-InitKind nb.the_family (nf.family A B) values_inits x)))
    commutes_inits nb.member-Init x = ap (λ y. y.0) (fold-roll-Init InitA InitB step_inits step_inits_struct x)
        ∙ ap g (sym (map_is-Init nb.the_family (nf.family A B) values_inits x))

    same_inits : (t : Init) → (fold-Init InitA InitB step_inits step_inits_struct t).0 ≡ fold-Init A B f g t
    unfolding fold
    same_inits t = fold_unique nb.the_members nb.the_sigs nb.the_carrier (nf.family A B) (nf.steps A B f g) values_inits commutes_inits nb.member-Init t ∙ sym (inits_laid A B f g t)

    pub every_inits : (t : Init) → GoodB (fold-Init A B f g t)
    every_inits t = subst GoodB (same_inits t) (fold-Init InitA InitB step_inits step_inits_struct t).1

-- a fold whose results are mapped to those of another one
module _ (A B A' B' : Type 0) (f : InitKind-F A B → A) (g : Init-F A B → B) (f' : InitKind-F A' B' → A') (g' : Init-F A' B' → B') (h : A → A') (h' : B → B') where
  module _ (here : (y : InitKind-F A B) → h (f y) ≡ f' (nf.map-InitKind A B A' B' h h' y)) (struct : (y : Init-F A B) → h' (g y) ≡ g' (nf.map-Init A B A' B' h h' y)) where
    abbrev mapped_inits : (i : nb.the_members) → nb.the_family i → nf.family A' B' i
    mapped_inits nb.member-InitKind t = h (fold-InitKind A B f g t)
    mapped_inits nb.member-Init t = h' (fold-Init A B f g t)

    goes_on_inits : (i : nb.the_members) (x : (nb.the_bodies i).Of nb.the_family) → mapped_inits i (roll nb.the_members nb.the_sigs nb.the_carrier i x) ≡ nf.steps A' B' f' g' i ((nb.the_bodies i).map nb.the_family (nf.family A' B') mapped_inits x)
    unfolding roll-InitKind roll
    goes_on_inits nb.member-InitKind x = ap h (fold-roll-InitKind A B f g x) ∙ (here (nf.map-InitKind InitKind Init A B (fold-InitKind A B f g) (fold-Init A B f g) x)
        ∙ (ap f' (inits_join InitKind Init A B A' B' (fold-InitKind A B f g) (fold-Init A B f g) h h' x) ∙ ap f' (sym (map_is-InitKind nb.the_family (nf.family A' B') mapped_inits x))))
    goes_on_inits nb.member-Init x = ap h' (fold-roll-Init A B f g x) ∙ (struct (nf.map-Init InitKind Init A B (fold-InitKind A B f g) (fold-Init A B f g) x)
        ∙ ap g' (sym (map_is-Init nb.the_family (nf.family A' B') mapped_inits x)))

    pub inits_fused : (t : Init) → h' (fold-Init A B f g t) ≡ fold-Init A' B' f' g' t
    unfolding fold
    inits_fused t = fold_unique nb.the_members nb.the_sigs nb.the_carrier (nf.family A' B') (nf.steps A' B' f' g') mapped_inits goes_on_inits nb.member-Init t ∙ sym (inits_laid A' B' f' g' t)

-- ---- Stmt

module _ (Y Y' Z Z' V V' : Type 0) (g : Y → Z) (g' : Y' → Z') (h : Z → V) (h' : Z' → V') where
  stmts_join : (x : StmtKind-F Y Y') → sf.map-StmtKind Z Z' V V' h h' (sf.map-StmtKind Y Y' Z Z' g g' x) ≡ sf.map-StmtKind Y Y' V V' (λ y. h (g y)) (λ y. h' (g' y)) x
  stmts_join (s.Value value) = refl
  stmts_join (s.Local d init) = refl
  stmts_join (s.If test a None) = refl
  stmts_join (s.If test a (Some b)) = refl
  stmts_join (s.While test body) = refl
  stmts_join (s.DoWhile body test) = refl
  stmts_join (s.For first test next body) = refl
  stmts_join s.Break = refl
  stmts_join s.Continue = refl
  stmts_join (s.Return value) = refl
  stmts_join (s.Block all) = ap (λ zs. s.Block zs) (maps_join g' h' all)

module _ (A B : Type 0) (f : StmtKind-F A B → A) (g : Stmt-F A B → B) (GoodA : A → Type 0) (GoodB : B → Type 0) where
  abbrev pub StmtA : Type 0
  StmtA = (a : A) × GoodA a

  abbrev pub StmtB : Type 0
  StmtB = (b : B) × GoodB b

  -- a layer without the facts of its children
  abbrev pub bare_stmts : StmtKind-F StmtA StmtB → StmtKind-F A B
  bare_stmts = sf.map-StmtKind StmtA StmtB A B (λ y. y.0) (λ y. y.0)

  abbrev pub bare_stmts_struct : Stmt-F StmtA StmtB → Stmt-F A B
  bare_stmts_struct = sf.map-Stmt StmtA StmtB A B (λ y. y.0) (λ y. y.0)

  module _ (good : (y : StmtKind-F StmtA StmtB) → GoodA (f (bare_stmts y))) (good_struct : (y : Stmt-F StmtA StmtB) → GoodB (g (bare_stmts_struct y))) where
    abbrev step_stmts : StmtKind-F StmtA StmtB → StmtA
    step_stmts y = (f (bare_stmts y), good y)

    abbrev step_stmts_struct : Stmt-F StmtA StmtB → StmtB
    step_stmts_struct y = (g (bare_stmts_struct y), good_struct y)

    abbrev values_stmts : (i : sb.the_members) → sb.the_family i → sf.family A B i
    values_stmts sb.member-StmtKind t = (fold-StmtKind StmtA StmtB step_stmts step_stmts_struct t).0
    values_stmts sb.member-Stmt t = (fold-Stmt StmtA StmtB step_stmts step_stmts_struct t).0

    commutes_stmts : (i : sb.the_members) (x : (sb.the_bodies i).Of sb.the_family) → values_stmts i (roll sb.the_members sb.the_sigs sb.the_carrier i x) ≡ sf.steps A B f g i ((sb.the_bodies i).map sb.the_family (sf.family A B) values_stmts x)
    unfolding roll-StmtKind roll
    commutes_stmts sb.member-StmtKind x = ap (λ y. y.0) (fold-roll-StmtKind StmtA StmtB step_stmts step_stmts_struct x)
        ∙ (ap f (stmts_join StmtKind Stmt StmtA StmtB A B (fold-StmtKind StmtA StmtB step_stmts step_stmts_struct) (fold-Stmt StmtA StmtB step_stmts step_stmts_struct) (λ y. y.0) (λ y. y.0) x)
        ∙ ap f (sym (map_is-StmtKind sb.the_family (sf.family A B) values_stmts x)))
    commutes_stmts sb.member-Stmt x = ap (λ y. y.0) (fold-roll-Stmt StmtA StmtB step_stmts step_stmts_struct x)
        ∙ ap g (sym (map_is-Stmt sb.the_family (sf.family A B) values_stmts x))

    same_stmts : (t : Stmt) → (fold-Stmt StmtA StmtB step_stmts step_stmts_struct t).0 ≡ fold-Stmt A B f g t
    unfolding fold
    same_stmts t = fold_unique sb.the_members sb.the_sigs sb.the_carrier (sf.family A B) (sf.steps A B f g) values_stmts commutes_stmts sb.member-Stmt t ∙ sym (stmts_laid A B f g t)

    pub every_stmts : (t : Stmt) → GoodB (fold-Stmt A B f g t)
    every_stmts t = subst GoodB (same_stmts t) (fold-Stmt StmtA StmtB step_stmts step_stmts_struct t).1

-- a fold whose results are mapped to those of another one
module _ (A B A' B' : Type 0) (f : StmtKind-F A B → A) (g : Stmt-F A B → B) (f' : StmtKind-F A' B' → A') (g' : Stmt-F A' B' → B') (h : A → A') (h' : B → B') where
  module _ (here : (y : StmtKind-F A B) → h (f y) ≡ f' (sf.map-StmtKind A B A' B' h h' y)) (struct : (y : Stmt-F A B) → h' (g y) ≡ g' (sf.map-Stmt A B A' B' h h' y)) where
    abbrev mapped_stmts : (i : sb.the_members) → sb.the_family i → sf.family A' B' i
    mapped_stmts sb.member-StmtKind t = h (fold-StmtKind A B f g t)
    mapped_stmts sb.member-Stmt t = h' (fold-Stmt A B f g t)

    goes_on_stmts : (i : sb.the_members) (x : (sb.the_bodies i).Of sb.the_family) → mapped_stmts i (roll sb.the_members sb.the_sigs sb.the_carrier i x) ≡ sf.steps A' B' f' g' i ((sb.the_bodies i).map sb.the_family (sf.family A' B') mapped_stmts x)
    unfolding roll-StmtKind roll
    goes_on_stmts sb.member-StmtKind x = ap h (fold-roll-StmtKind A B f g x) ∙ (here (sf.map-StmtKind StmtKind Stmt A B (fold-StmtKind A B f g) (fold-Stmt A B f g) x)
        ∙ (ap f' (stmts_join StmtKind Stmt A B A' B' (fold-StmtKind A B f g) (fold-Stmt A B f g) h h' x) ∙ ap f' (sym (map_is-StmtKind sb.the_family (sf.family A' B') mapped_stmts x))))
    goes_on_stmts sb.member-Stmt x = ap h' (fold-roll-Stmt A B f g x) ∙ (struct (sf.map-Stmt StmtKind Stmt A B (fold-StmtKind A B f g) (fold-Stmt A B f g) x)
        ∙ ap g' (sym (map_is-Stmt sb.the_family (sf.family A' B') mapped_stmts x)))

    pub stmts_fused : (t : Stmt) → h' (fold-Stmt A B f g t) ≡ fold-Stmt A' B' f' g' t
    unfolding fold
    stmts_fused t = fold_unique sb.the_members sb.the_sigs sb.the_carrier (sf.family A' B') (sf.steps A' B' f' g') mapped_stmts goes_on_stmts sb.member-Stmt t ∙ sym (stmts_laid A' B' f' g' t)
