-- How many nodes there are: each `Item`, `Decl`, `Init`, `Stmt` and `Expr` is one.
use Rattle.std.specs.Prelude.{ℕ, ◌+◌, List, [], ◌∷◌, map, Option, Some, None}
use Rattle.c_tree.specs.declared.tree.Tree.{Tree}
use Rattle.c_tree.specs.declared.tree.Item.{Item}
use Rattle.c_tree.specs.declared.tree.ItemKind.{ItemKind}
use Rattle.c_tree.specs.declared.tree.ItemKind.TheVariants as k
use Rattle.c_tree.specs.declared.tree.Decl.{Decl}
use Rattle.c_tree.specs.declared.tree.Expr.{Expr, fold-Expr}
use Rattle.c_tree.specs.declared.tree.ExprKind.{ExprKind-F}
use Rattle.c_tree.specs.declared.tree.ExprKind.TheOpen as e
use Rattle.c_tree.specs.declared.tree.Init.{Init, fold-Init}
use Rattle.c_tree.specs.declared.tree.InitKind.{InitKind-F}
use Rattle.c_tree.specs.declared.tree.InitKind.TheOpen as i
use Rattle.c_tree.specs.declared.tree.Stmt.{Stmt, fold-Stmt}
use Rattle.c_tree.specs.declared.tree.StmtKind.{StmtKind-F}
use Rattle.c_tree.specs.declared.tree.StmtKind.TheOpen as s

abbrev pub total : List ℕ → ℕ
total [] = 0
total (n ∷ ns) = n + total ns

-- the nodes of what may be absent
abbrev pub any : Option ℕ → ℕ
any None = 0
any (Some n) = n

abbrev pub expr_step : ExprKind-F ℕ ℕ → ℕ
expr_step (e.Number n kind) = 1
expr_step (e.Text bytes) = 1
expr_step (e.Var name) = 1
expr_step (e.Unary op a) = a + 1
expr_step (e.Binary op a b) = a + b + 1
expr_step (e.Assign op a b) = a + b + 1
expr_step (e.StepBy up before a) = a + 1
expr_step (e.Cond a b c) = a + b + c + 1
expr_step (e.Call name all) = total all + 1
expr_step (e.Index a b) = a + b + 1
expr_step (e.Member a name) = a + 1
expr_step (e.Arrow a name) = a + 1
expr_step (e.Cast base stars a) = a + 1
expr_step (e.SizeOfKind base stars) = 1
expr_step (e.SizeOfValue a) = a + 1

abbrev pub expr_nodes : Expr → ℕ
expr_nodes = fold-Expr ℕ ℕ expr_step (λ x. x.kind)

abbrev pub maybe_expr : Option Expr → ℕ
maybe_expr None = 0
maybe_expr (Some x) = expr_nodes x

abbrev pub decl_nodes : Decl → ℕ
decl_nodes d = total (map expr_nodes d.counts) + 1

abbrev pub init_step : InitKind-F ℕ ℕ → ℕ
init_step (i.One x) = expr_nodes x + 1
init_step (i.Many all) = total all + 1

abbrev pub init_nodes : Init → ℕ
init_nodes = fold-Init ℕ ℕ init_step (λ x. x.kind)

abbrev pub maybe_init : Option Init → ℕ
maybe_init None = 0
maybe_init (Some x) = init_nodes x

abbrev pub stmt_step : StmtKind-F ℕ ℕ → ℕ
stmt_step (s.Value value) = maybe_expr value + 1
stmt_step (s.Local d init) = decl_nodes d + maybe_init init + 1
stmt_step (s.If test then other) = expr_nodes test + then + any other + 1
stmt_step (s.While test body) = expr_nodes test + body + 1
stmt_step (s.DoWhile body test) = body + expr_nodes test + 1
stmt_step (s.For first test next body) = maybe_expr first + maybe_expr test + maybe_expr next + body + 1
stmt_step s.Break = 1
stmt_step s.Continue = 1
stmt_step (s.Return value) = maybe_expr value + 1
stmt_step (s.Block all) = total all + 1

abbrev pub stmt_nodes : Stmt → ℕ
stmt_nodes = fold-Stmt ℕ ℕ stmt_step (λ x. x.kind)

abbrev pub maybe_stmt : Option Stmt → ℕ
maybe_stmt None = 0
maybe_stmt (Some x) = stmt_nodes x

abbrev pub kind_nodes : ItemKind → ℕ
kind_nodes (k.Struct tag members) = total (map decl_nodes members) + 1
kind_nodes (k.Var external d init) = decl_nodes d + maybe_init init + 1
kind_nodes (k.Fun d params body) = decl_nodes d + total (map decl_nodes params) + maybe_stmt body + 1

abbrev pub item_nodes : Item → ℕ
item_nodes x = kind_nodes x.kind

abbrev pub tree_nodes : Tree → ℕ
tree_nodes tree = total (map item_nodes tree.items)
