-- Small sources as syntax trees, to see which symbols they have.
use Rattle.std.specs.Prelude.{ℕ, Bool, true, false, List, [], ◌∷◌, codes, None, Some}
use Rattle.mx_base.specs.declared.places.Place.{Place}
use Rattle.mx_base.specs.declared.numbers.IntKind.TheVariants.{I8, I32}
use Rattle.mx_base.specs.declared.operators.Arithmetic.TheVariants.{Add}
use Rattle.c_tree.specs.declared.operators.UnaryOp.TheVariants.{Deref}
use Rattle.c_tree.specs.declared.operators.BinaryOp.TheVariants as o
use Rattle.c_tree.specs.declared.tree.Tree.{Tree}
use Rattle.c_tree.specs.declared.tree.Item.{Item}
use Rattle.c_tree.specs.declared.tree.ItemKind.{ItemKind}
use Rattle.c_tree.specs.declared.tree.ItemKind.TheVariants as k
use Rattle.c_tree.specs.declared.tree.Decl.{Decl}
use Rattle.c_tree.specs.declared.tree.Base.TheVariants as b
use Rattle.c_tree.specs.declared.tree.Expr.{Expr}
use Rattle.c_tree.specs.declared.tree.ExprKind.{ExprKind}
use Rattle.c_tree.specs.declared.tree.ExprKind.TheVariants as e
use Rattle.c_tree.specs.declared.tree.Stmt.{Stmt}
use Rattle.c_tree.specs.declared.tree.StmtKind.{StmtKind}
use Rattle.c_tree.specs.declared.tree.StmtKind.TheVariants as s

abbrev pub spot : Place
spot = record { file = 0; line = 1; col = 1 }

abbrev pub expr : ExprKind → Expr
expr kind = record { place = spot; kind = kind }

abbrev pub stmt : StmtKind → Stmt
stmt kind = record { place = spot; kind = kind }

abbrev pub item : ItemKind → Item
item kind = record { place = spot; kind = kind }

abbrev pub int_named : (name : List ℕ) → Decl
int_named name = record { place = spot; base = b.Int I32; stars = 0; name = name; counts = [] }

abbrev pub pointer_named : (name : List ℕ) → Decl
pointer_named name = record { place = spot; base = b.Int I8; stars = 1; name = name; counts = [] }

abbrev pub variable : (name : List ℕ) → Expr
variable name = expr (e.Var name)

abbrev pub global : (external : Bool) → (name : List ℕ) → Item
global external name = item (k.Var external (int_named name) None)

-- a function that only gives a value
abbrev pub gives : (name : List ℕ) → List Decl → Expr → Item
gives name params value = item (k.Fun (int_named name) params (Some (stmt (s.Block (stmt (s.Return (Some value)) ∷ [])))))

abbrev pub source : List Item → Tree
source items = record { items = items }

-- extern int a; extern int b; int c; int f(int n);
-- int main(void){ return a + sizeof b; }
abbrev pub uses_one : Tree
uses_one = source (
    global true (codes "a")
    ∷ global true (codes "b")
    ∷ global false (codes "c")
    ∷ item (k.Fun (int_named (codes "f")) (int_named (codes "n") ∷ []) None)
    ∷ gives (codes "main") [] (expr (e.Binary (o.Arithmetic Add) (variable (codes "a")) (expr (e.SizeOfValue (variable (codes "b"))))))
    ∷ [])

-- extern int c; int f(char *p); int c;
-- int main(void){ return f("hi"); }
abbrev pub passes_text : Tree
passes_text = source (
    global true (codes "c")
    ∷ item (k.Fun (int_named (codes "f")) (pointer_named (codes "p") ∷ []) None)
    ∷ global false (codes "c")
    ∷ gives (codes "main") [] (expr (e.Call (codes "f") (expr (e.Text (codes "hi")) ∷ [])))
    ∷ [])

-- int f(char *p){ return *p; }
-- extern int f_2;
-- int main(void){ return f(0) + sizeof "hi"; }
abbrev pub calls_own : Tree
calls_own = source (
    gives (codes "f") (pointer_named (codes "p") ∷ []) (expr (e.Unary Deref (variable (codes "p"))))
    ∷ global true (codes "f_2")
    ∷ gives (codes "main") [] (expr (e.Binary (o.Arithmetic Add) (expr (e.Call (codes "f") (expr (e.Number 0 I32) ∷ []))) (expr (e.SizeOfValue (expr (e.Text (codes "hi")))))))
    ∷ [])

-- int a123456789a123456789a123456789a123456789a123456789a123456789a12(void){ return "x"[0]; }
abbrev pub long_name : List ℕ
long_name = codes "a123456789a123456789a123456789a123456789a123456789a123456789a12"

abbrev pub names_long : Tree
names_long = source (gives long_name [] (expr (e.Index (expr (e.Text (codes "x"))) (expr (e.Number 0 I32)))) ∷ [])
