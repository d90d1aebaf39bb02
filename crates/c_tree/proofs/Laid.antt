-- Folds over the trees of expressions, initialisers and statements are the folds that compute on closed trees.
use Rattle.std.proofs.Common.{◌≡◌, ap, sym, ◌∙◌}
use denote.Hole.Carrier.{fold, roll}
use denote.Hole.Recursion.{fold_unique}
use Rattle.c_tree.specs.declared.tree.Expr.{Expr, Expr-F, fold-Expr, fold-roll-Expr, map_is-Expr}
use Rattle.c_tree.specs.declared.tree.ExprKind.{ExprKind-F, fold-ExprKind, fold-roll-ExprKind, map_is-ExprKind, roll-ExprKind}
use Rattle.c_tree.specs.declared.tree.ExprKind.TheFolds as ef
use Rattle.c_tree.specs.declared.tree.ExprKind.TheBlock as eb
use Rattle.c_tree.specs.declared.tree.Init.{Init, Init-F, fold-Init, fold-roll-Init, map_is-Init}
use Rattle.c_tree.specs.declared.tree.InitKind.{InitKind-F, fold-InitKind, fold-roll-InitKind, map_is-InitKind, roll-InitKind}
use Rattle.c_tree.specs.declared.tree.InitKind.TheFolds as nf
use Rattle.c_tree.specs.declared.tree.InitKind.TheBlock as nb
use Rattle.c_tree.specs.declared.tree.Stmt.{Stmt, Stmt-F, fold-Stmt, fold-roll-Stmt, map_is-Stmt}
use Rattle.c_tree.specs.declared.tree.StmtKind.{StmtKind-F, fold-StmtKind, fold-roll-StmtKind, map_is-StmtKind, roll-StmtKind}
use Rattle.c_tree.specs.declared.tree.StmtKind.TheFolds as sf
use Rattle.c_tree.specs.declared.tree.StmtKind.TheBlock as sb

module _ (A B : Type 0) (f : ExprKind-F A B → A) (g : Expr-F A B → B) where
  abbrev both_exprs : (i : eb.the_members) → eb.the_family i → ef.family A B i
  both_exprs eb.member-ExprKind = fold-ExprKind A B f g
  both_exprs eb.member-Expr = fold-Expr A B f g

  commutes_exprs : (i : eb.the_members) (x : (eb.the_bodies i).Of eb.the_family) → both_exprs i (roll eb.the_members eb.the_sigs eb.the_carrier i x) ≡ ef.steps A B f g i ((eb.the_bodies i).map eb.the_family (ef.family A B) both_exprs x)
  unfolding roll-ExprKind roll
  commutes_exprs eb.member-ExprKind x = fold-roll-ExprKind A B f g x ∙ ap f (sym (map_is-ExprKind eb.the_family (ef.family A B) both_exprs x))
  commutes_exprs eb.member-Expr x = fold-roll-Expr A B f g x ∙ ap g (sym (map_is-Expr eb.the_family (ef.family A B) both_exprs x))

  pub exprs_laid : (t : Expr) → fold-Expr A B f g t ≡ eb.laid-Expr (ef.family A B) (ef.steps A B f g) t
  unfolding fold
  exprs_laid t = fold_unique eb.the_members eb.the_sigs eb.the_carrier (ef.family A B) (ef.steps A B f g) both_exprs commutes_exprs eb.member-Expr t

module _ (A B : Type 0) (f : InitKind-F A B → A) (g : Init-F A B → B) where
  abbrev both_inits : (i : nb.the_members) → nb.the_family i → nf.family A B i
  both_inits nb.member-InitKind = fold-InitKind A B f g
  both_inits nb.member-Init = fold-Init A B f g

  commutes_inits : (i : nb.the_members) (x : (nb.the_bodies i).Of nb.the_family) → both_inits i (roll nb.the_members nb.the_sigs nb.the_carrier i x) ≡ nf.steps A B f g i ((nb.the_bodies i).map nb.the_family (nf.family A B) both_inits x)
  unfolding roll-InitKind roll
  commutes_inits nb.member-InitKind x = fold-roll-InitKind A B f g x ∙ ap f (sym (map_is-InitKind nb.the_family (nf.family A B) both_inits x))
  commutes_inits nb.member-Init x = fold-roll-Init A B f g x ∙ ap g (sym (map_is-Init nb.the_family (nf.family A B) both_inits x))

  pub inits_laid : (t : Init) → fold-Init A B f g t ≡ nb.laid-Init (nf.family A B) (nf.steps A B f g) t
  unfolding fold
  inits_laid t = fold_unique nb.the_members nb.the_sigs nb.the_carrier (nf.family A B) (nf.steps A B f g) both_inits commutes_inits nb.member-Init t

module _ (A B : Type 0) (f : StmtKind-F A B → A) (g : Stmt-F A B → B) where
  abbrev both_stmts : (i : sb.the_members) → sb.the_family i → sf.family A B i
  both_stmts sb.member-StmtKind = fold-StmtKind A B f g
  both_stmts sb.member-Stmt = fold-Stmt A B f g

  commutes_stmts : (i : sb.the_members) (x : (sb.the_bodies i).Of sb.the_family) → both_stmts i (roll sb.the_members sb.the_sigs sb.the_carrier i x) ≡ sf.steps A B f g i ((sb.the_bodies i).map sb.the_family (sf.family A B) both_stmts x)
  unfolding roll-StmtKind roll
  commutes_stmts sb.member-StmtKind x = fold-roll-StmtKind A B f g x ∙ ap f (sym (map_is-StmtKind sb.the_family (sf.family A B) both_stmts x))
  commutes_stmts sb.member-Stmt x = fold-roll-Stmt A B f g x ∙ ap g (sym (map_is-Stmt sb.the_family (sf.family A B) both_stmts x))

  pub stmts_laid : (t : Stmt) → fold-Stmt A B f g t ≡ sb.laid-Stmt (sf.family A B) (sf.steps A B f g) t
  unfolding fold
  stmts_laid t = fold_unique sb.the_members sb.the_sigs sb.the_carrier (sf.family A B) (sf.steps A B f g) both_stmts commutes_stmts sb.member-Stmt t
