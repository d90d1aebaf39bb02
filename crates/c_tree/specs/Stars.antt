-- The most stars of a type that is written in a tree: of a declaration, a cast or `sizeof`. A star takes 8 bits, so there are at most 255 of them in
-- whatever is read.
use Rattle.std.specs.Prelude.{ℕ, ◌≤◌, max, List, [], ◌∷◌, map, Option, Some, None}
use Rattle.c_tree.specs.declared.tree.Tree.{Tree}
use Rattle.c_tree.specs.declared.tree.ItemKind.{ItemKind}
use Rattle.c_tree.specs.declared.tree.ItemKind.TheVariants as k
use Rattle.c_tree.specs.declared.tree.Decl.{Decl}
use Rattle.c_tree.specs.declared.tree.Expr.{Expr, fold-Expr}
use Rattle.c_tree.specs.declared.tree.ExprKind.{ExprKind-F}
use Rattle.c_tree.specs.declared.tree.ExprKind.TheOpen as e
use Rattle.c_tree.specs.declared.tree.Init.{Init, fold-Init}
use Rattle.c_tree.specs.declared.tree.InitKind.{InitKind-F}
use Rattle.c_tree.specs.declared.tree.InitKind.TheOpen as i
use Rattle.c_tree.specs.declared.tree.Stmt.{Stmt, fold-Stmt}
use Rattle.c_tree.specs.declared.tree.StmtKind.{StmtKind-F}
use Rattle.c_tree.specs.declared.tree.StmtKind.TheOpen as s

abbrev pub most : List ℕ → ℕ
most [] = 0
most (n ∷ ns) = max n (most ns)

-- of what may be absent
abbrev pub any : Option ℕ → ℕ
any None = 0
any (Some n) = n

abbrev pub expr_step : ExprKind-F ℕ ℕ → ℕ
expr_step (e.Number n kind) = 0
expr_step (e.Text bytes) = 0
expr_step (e.Var name) = 0
expr_step (e.Unary op a) = a
expr_step (e.Binary op a b) = max a b
expr_step (e.Assign op a b) = max a b
expr_step (e.StepBy up before a) = a
expr_step (e.Cond a b c) = max a (max b c)
expr_step (e.Call name all) = most all
expr_step (e.Index a b) = max a b
expr_step (e.Member a name) = a
expr_step (e.Arrow a name) = a
expr_step (e.Cast base stars a) = max stars a
expr_step (e.SizeOfKind base stars) = stars
expr_step (e.SizeOfValue a) = a

abbrev pub expr_stars : Expr → ℕ
expr_stars = fold-Expr ℕ ℕ expr_step (λ x. x.kind)

abbrev pub maybe_expr : Option Expr → ℕ
maybe_expr None = 0
maybe_expr (Some x) = expr_stars x

abbrev pub decl_stars : Decl → ℕ
decl_stars d = max d.stars (most (map expr_stars d.counts))

abbrev pub init_step : InitKind-F ℕ ℕ → ℕ
init_step (i.One x) = expr_stars x
init_step (i.Many all) = most all

abbrev pub init_stars : Init → ℕ
init_stars = fold-Init ℕ ℕ init_step (λ x. x.kind)

abbrev pub maybe_init : Option Init → ℕ
maybe_init None = 0
maybe_init (Some x) = init_stars x

abbrev pub stmt_step : StmtKind-F ℕ ℕ → ℕ
stmt_step (s.Value value) = maybe_expr value
stmt_step (s.Local d init) = max (decl_stars d) (maybe_init init)
stmt_step (s.If test a other) = max (expr_stars test) (max a (any other))
stmt_step (s.While test body) = max (expr_stars test) body
stmt_step (s.DoWhile body test) = max body (expr_stars test)
stmt_step (s.For first test next body) = max (maybe_expr first) (max (maybe_expr test) (max (maybe_expr next) body))
stmt_step s.Break = 0
stmt_step s.Continue = 0
stmt_step (s.Return value) = maybe_expr value
stmt_step (s.Block all) = most all

abbrev pub stmt_stars : Stmt → ℕ
stmt_stars = fold-Stmt ℕ ℕ stmt_step (λ x. x.kind)

abbrev pub maybe_stmt : Option Stmt → ℕ
maybe_stmt None = 0
maybe_stmt (Some x) = stmt_stars x

abbrev pub kind_stars : ItemKind → ℕ
kind_stars (k.Struct tag members) = most (map decl_stars members)
kind_stars (k.Var external d init) = max (decl_stars d) (maybe_init init)
kind_stars (k.Fun d params body) = max (decl_stars d) (max (most (map decl_stars params)) (maybe_stmt body))

abbrev pub tree_stars : Tree → ℕ
tree_stars tree = most (map (λ x. kind_stars x.kind) tree.items)

abbrev pub HasFewStars : Tree → Type 0
HasFewStars tree = tree_stars tree ≤ 255
