-- How many values wait at most at one place of a tree: the earlier arguments of a call, the left operand of an operator other than `&&`, `||` and
-- `?:`, the address of an assignment, and the array or pointer of an index, each while what comes after it is evaluated.
use Rattle.std.specs.Prelude.{ℕ, ◌+◌, max, if◌then◌else◌, Option, None, Some, List, [], ◌∷◌, map}
use Rattle.c_tree.specs.declared.tree.Item.{Item}
use Rattle.c_tree.specs.declared.tree.ItemKind.{ItemKind}
use Rattle.c_tree.specs.declared.tree.ItemKind.TheVariants as k
use Rattle.c_tree.specs.Operators.{is_logical}
use Rattle.c_tree.specs.declared.tree.Expr.{Expr, fold-Expr}
use Rattle.c_tree.specs.declared.tree.ExprKind.{ExprKind-F}
use Rattle.c_tree.specs.declared.tree.ExprKind.TheOpen as e
use Rattle.c_tree.specs.declared.tree.Init.{Init, fold-Init}
use Rattle.c_tree.specs.declared.tree.InitKind.{InitKind-F}
use Rattle.c_tree.specs.declared.tree.InitKind.TheOpen as i
use Rattle.c_tree.specs.declared.tree.Stmt.{Stmt, fold-Stmt}
use Rattle.c_tree.specs.declared.tree.StmtKind.{StmtKind-F}
use Rattle.c_tree.specs.declared.tree.StmtKind.TheOpen as s

abbrev pub most : List ℕ → ℕ
most [] = 0
most (n ∷ ns) = max n (most ns)

abbrev pub any : Option ℕ → ℕ
any None = 0
any (Some n) = n

-- arguments, of which so many wait before the first of these
abbrev pub waits_from : (waiting : ℕ) → List ℕ → ℕ
waits_from waiting [] = 0
waits_from waiting (n ∷ ns) = max (n + waiting) (waits_from (waiting + 1) ns)

abbrev pub expr_waits : ExprKind-F ℕ ℕ → ℕ
expr_waits (e.Number n kind) = 0
expr_waits (e.Text bytes) = 0
expr_waits (e.Var name) = 0
expr_waits (e.Unary op a) = a
expr_waits (e.Binary op a c) = if is_logical op then max a c else max a (c + 1)
expr_waits (e.Assign op a c) = max a (c + 1)
expr_waits (e.StepBy up before a) = a
expr_waits (e.Cond c a d) = max c (max a d)
expr_waits (e.Call name all) = waits_from 0 all
expr_waits (e.Index a j) = max a (j + 1)
expr_waits (e.Member a name) = a
expr_waits (e.Arrow a name) = a
expr_waits (e.Cast base stars a) = a
expr_waits (e.SizeOfKind base stars) = 0
expr_waits (e.SizeOfValue a) = a

abbrev pub waits : Expr → ℕ
waits = fold-Expr ℕ ℕ expr_waits (λ x. x.kind)

abbrev pub maybe_waits : Option Expr → ℕ
maybe_waits None = 0
maybe_waits (Some x) = waits x

abbrev pub init_waits : InitKind-F ℕ ℕ → ℕ
init_waits (i.One x) = waits x
init_waits (i.Many all) = most all

abbrev pub waits_init : Init → ℕ
waits_init = fold-Init ℕ ℕ init_waits (λ x. x.kind)

abbrev pub maybe_waits_init : Option Init → ℕ
maybe_waits_init None = 0
maybe_waits_init (Some x) = waits_init x

abbrev pub stmt_waits : StmtKind-F ℕ ℕ → ℕ
stmt_waits (s.Value value) = maybe_waits value
stmt_waits (s.Local d init) = max (most (map waits d.counts)) (maybe_waits_init init)
stmt_waits (s.If test a other) = max (waits test) (max a (any other))
stmt_waits (s.While test body) = max (waits test) body
stmt_waits (s.DoWhile body test) = max body (waits test)
stmt_waits (s.For first test next body) = max (maybe_waits first) (max (maybe_waits test) (max (maybe_waits next) body))
stmt_waits s.Break = 0
stmt_waits s.Continue = 0
stmt_waits (s.Return value) = maybe_waits value
stmt_waits (s.Block all) = most all

abbrev pub waits_stmt : Stmt → ℕ
waits_stmt = fold-Stmt ℕ ℕ stmt_waits (λ x. x.kind)

-- in the bodies of a source
abbrev pub body_waits : Option Stmt → ℕ
body_waits None = 0
body_waits (Some b) = waits_stmt b

abbrev pub item_waits : ItemKind → ℕ
item_waits (k.Struct tag members) = 0
item_waits (k.Var external d init) = 0
item_waits (k.Fun d params body) = body_waits body

abbrev pub items_waits : List Item → ℕ
items_waits [] = 0
items_waits (x ∷ more) = max (item_waits x.kind) (items_waits more)
