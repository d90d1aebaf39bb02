-- When a node is formed, by its parts.
use Rattle.std.proofs.Common.{◌≡◌, ℕ, Bool, true, false, ◌&&◌, List, ◌∷◌, map, Option, Some, None, rules}
use Rattle.std.specs.List.{list_all}
use Rattle.mx_base.specs.declared.places.Place.{Place}
use Rattle.mx_base.specs.declared.numbers.IntKind.{IntKind}
use Rattle.mx_base.specs.declared.operators.Arithmetic.{Arithmetic}
use Rattle.c_tree.specs.declared.operators.BinaryOp.{BinaryOp}
use Rattle.c_tree.specs.declared.operators.UnaryOp.{UnaryOp}
use Rattle.c_tree.specs.declared.tree.Base.{Base}
use Rattle.c_tree.specs.declared.tree.Decl.{Decl}
use Rattle.c_tree.specs.declared.tree.Expr.{Expr, the_lemmas as expr_lemmas}
use Rattle.c_tree.specs.declared.tree.ExprKind.{ExprKind}
use Rattle.c_tree.specs.declared.tree.ExprKind.TheVariants as e
use Rattle.c_tree.specs.declared.tree.Init.{Init, the_lemmas as init_lemmas}
use Rattle.c_tree.specs.declared.tree.InitKind.TheVariants as i
use Rattle.c_tree.specs.declared.tree.Stmt.{Stmt, the_lemmas as stmt_lemmas}
use Rattle.c_tree.specs.declared.tree.StmtKind.{StmtKind}
use Rattle.c_tree.specs.declared.tree.StmtKind.TheVariants as s
use Rattle.c_tree.specs.declared.tree.StmtKind.TheVariants.{outs-If}
use Rattle.c_tree.specs.Names.{is_name}
use Rattle.c_tree.specs.Formed.{stands, every, is_number, few_stars, formed_base, formed_expr, maybe_expr, formed_decl, formed_init, maybe_init, Seen, is_branch, seen_stmt}

abbrev at : Place → ExprKind → Expr
at p k = record { place = p; kind = k }

pub number : (p : Place) (n : ℕ) (kind : IntKind) → formed_expr (at p (e.Number n kind)) ≡ (stands p && is_number n kind)
number p n kind = search (rules, expr_lemmas)

pub text : (p : Place) (bytes : List ℕ) → formed_expr (at p (e.Text bytes)) ≡ (stands p && true)
text p bytes = search (rules, expr_lemmas)

pub var : (p : Place) (name : List ℕ) → formed_expr (at p (e.Var name)) ≡ (stands p && is_name name)
var p name = search (rules, expr_lemmas)

pub unary : (p : Place) (op : UnaryOp) (a : Expr) → formed_expr (at p (e.Unary op a)) ≡ (stands p && formed_expr a)
unary p op a = search (rules, expr_lemmas)

pub binary : (p : Place) (op : BinaryOp) (a b : Expr) → formed_expr (at p (e.Binary op a b)) ≡ (stands p && (formed_expr a && formed_expr b))
binary p op a b = search (rules, expr_lemmas)

pub assign : (p : Place) (op : Option Arithmetic) (a b : Expr) → formed_expr (at p (e.Assign op a b)) ≡ (stands p && (formed_expr a && formed_expr b))
assign p op a b = search (rules, expr_lemmas)

pub step_by : (p : Place) (up before : Bool) (a : Expr) → formed_expr (at p (e.StepBy up before a)) ≡ (stands p && formed_expr a)
step_by p up before a = search (rules, expr_lemmas)

pub cond : (p : Place) (a b c : Expr) → formed_expr (at p (e.Cond a b c)) ≡ (stands p && (formed_expr a && formed_expr b && formed_expr c))
cond p a b c = search (rules, expr_lemmas)

pub call : (p : Place) (name : List ℕ) (args : List Expr) → formed_expr (at p (e.Call name args)) ≡ (stands p && (is_name name && every (map formed_expr args)))
call p name args = search (rules, expr_lemmas)

pub index : (p : Place) (a b : Expr) → formed_expr (at p (e.Index a b)) ≡ (stands p && (formed_expr a && formed_expr b))
index p a b = search (rules, expr_lemmas)

pub member : (p : Place) (a : Expr) (name : List ℕ) → formed_expr (at p (e.Member a name)) ≡ (stands p && (formed_expr a && is_name name))
member p a name = search (rules, expr_lemmas)

pub arrow : (p : Place) (a : Expr) (name : List ℕ) → formed_expr (at p (e.Arrow a name)) ≡ (stands p && (formed_expr a && is_name name))
arrow p a name = search (rules, expr_lemmas)

pub cast : (p : Place) (base : Base) (stars : ℕ) (a : Expr) → formed_expr (at p (e.Cast base stars a)) ≡ (stands p && (formed_base base && few_stars stars && formed_expr a))
cast p base stars a = search (rules, expr_lemmas)

pub size_of_kind : (p : Place) (base : Base) (stars : ℕ) → formed_expr (at p (e.SizeOfKind base stars)) ≡ (stands p && (formed_base base && few_stars stars))
size_of_kind p base stars = search (rules, expr_lemmas)

pub size_of_value : (p : Place) (a : Expr) → formed_expr (at p (e.SizeOfValue a)) ≡ (stands p && formed_expr a)
size_of_value p a = search (rules, expr_lemmas)

pub one : (p : Place) (a : Expr) → formed_init (record { place = p; kind = i.One a }) ≡ (stands p && formed_expr a)
one p a = search (rules, init_lemmas)

pub many : (p : Place) (x : Init) (more : List Init) → formed_init (record { place = p; kind = i.Many (x ∷ more) }) ≡ (stands p && (true && every (map formed_init (x ∷ more))))
many p x more = search (rules, init_lemmas)

-- ---- statements

abbrev seen : Bool → Bool → Bool → Seen
seen formed declares braces = record { formed = formed; declares = declares; braces = braces }

abbrev stmt : Place → StmtKind → Stmt
stmt p k = record { place = p; kind = k }

pub value : (p : Place) (a : Option Expr) → seen_stmt (stmt p (s.Value a)) ≡ seen (stands p && maybe_expr a) false false
value p a = search (rules, stmt_lemmas)

pub local : (p : Place) (d : Decl) (init : Option Init) → seen_stmt (stmt p (s.Local d init)) ≡ seen (stands p && (formed_decl d && maybe_init init)) true false
local p d init = search (rules, stmt_lemmas)

pub if_some : (p : Place) (test : Expr) (then other : Stmt) → seen_stmt (stmt p (s.If test then (Some other))) ≡ seen (stands p && (formed_expr test && is_branch (seen_stmt then) && is_branch (seen_stmt other))) false false
if_some p test then other = search (rules, stmt_lemmas, outs-If test then (Some other))

pub if_none : (p : Place) (test : Expr) (then : Stmt) → seen_stmt (stmt p (s.If test then None)) ≡ seen (stands p && (formed_expr test && is_branch (seen_stmt then) && true)) false false
if_none p test then = search (rules, stmt_lemmas, outs-If test then None)

pub while_ : (p : Place) (test : Expr) (body : Stmt) → seen_stmt (stmt p (s.While test body)) ≡ seen (stands p && (formed_expr test && is_branch (seen_stmt body))) false false
while_ p test body = search (rules, stmt_lemmas)

pub do_while : (p : Place) (body : Stmt) (test : Expr) → seen_stmt (stmt p (s.DoWhile body test)) ≡ seen (stands p && (is_branch (seen_stmt body) && formed_expr test)) false false
do_while p body test = search (rules, stmt_lemmas)

pub for_ : (p : Place) (first test next : Option Expr) (body : Stmt) → seen_stmt (stmt p (s.For first test next body)) ≡ seen (stands p && (maybe_expr first && maybe_expr test && maybe_expr next && is_branch (seen_stmt body))) false false
for_ p first test next body = search (rules, stmt_lemmas)

pub break_ : (p : Place) → seen_stmt (stmt p s.Break) ≡ seen (stands p && true) false false
break_ p = search (rules, stmt_lemmas)

pub continue_ : (p : Place) → seen_stmt (stmt p s.Continue) ≡ seen (stands p && true) false false
continue_ p = search (rules, stmt_lemmas)

pub return_ : (p : Place) (a : Option Expr) → seen_stmt (stmt p (s.Return a)) ≡ seen (stands p && maybe_expr a) false false
return_ p a = search (rules, stmt_lemmas)

pub block : (p : Place) (all : List Stmt) → seen_stmt (stmt p (s.Block all)) ≡ seen (stands p && list_all (λ x. x.formed) (map seen_stmt all)) false true
block p all = search (rules, stmt_lemmas)
