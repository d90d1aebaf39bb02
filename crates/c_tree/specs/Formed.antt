-- Which trees are formed: each node has the parts that the grammar gives it. Every name is a name of the language, every number is the word of its
-- type, every type has at most 255 stars, and every line and column is at least 1.
use Rattle.std.specs.Prelude.{◌≡◌, ℕ, Bool, true, false, ◌&&◌, ◌==◌, not, nat_le, List, [], ◌∷◌, Option, Some, None}
use Rattle.std.specs.List.{list_all}
use Rattle.mx_base.specs.declared.places.Place.{Place}
use Rattle.mx_base.specs.declared.numbers.IntKind.{IntKind}
use Rattle.mx_base.specs.declared.numbers.IntKind.TheVariants.{I8, U8, I16, U16, I32, U32, I64, U64}
use Rattle.mx_base.specs.Numbers.{extended}
use Rattle.c_tree.specs.declared.tree.Tree.{Tree}
use Rattle.c_tree.specs.declared.tree.Item.{Item}
use Rattle.c_tree.specs.declared.tree.ItemKind.{ItemKind}
use Rattle.c_tree.specs.declared.tree.ItemKind.TheVariants as k
use Rattle.c_tree.specs.declared.tree.Decl.{Decl}
use Rattle.c_tree.specs.declared.tree.Base.{Base}
use Rattle.c_tree.specs.declared.tree.Base.TheVariants as b
use Rattle.c_tree.specs.declared.tree.Expr.{Expr, fold-Expr}
use Rattle.c_tree.specs.declared.tree.ExprKind.{ExprKind-F}
use Rattle.c_tree.specs.declared.tree.ExprKind.TheOpen as e
use Rattle.c_tree.specs.declared.tree.Init.{Init, fold-Init}
use Rattle.c_tree.specs.declared.tree.InitKind.{InitKind-F}
use Rattle.c_tree.specs.declared.tree.InitKind.TheOpen as i
use Rattle.c_tree.specs.declared.tree.Stmt.{Stmt, fold-Stmt}
use Rattle.c_tree.specs.declared.tree.StmtKind.{StmtKind-F}
use Rattle.c_tree.specs.declared.tree.StmtKind.TheOpen as s
use Rattle.c_tree.specs.Names.{is_name}

-- ---- parts

-- lines and columns count from 1
abbrev pub stands : Place → Bool
stands place = nat_le 1 place.line && nat_le 1 place.col

abbrev pub is_empty : {A : Type 0} → List A → Bool
is_empty [] = true
is_empty (x ∷ xs) = false

-- all of these hold
abbrev pub every : List Bool → Bool
every [] = true
every (t ∷ more) = t && every more

-- what is absent, or holds
abbrev pub absent_or : Option Bool → Bool
absent_or None = true
absent_or (Some t) = t

-- a number has one of the four types of numbers, and its word is that of a number of the type
abbrev pub has_number_type : IntKind → Bool
has_number_type I8 = false
has_number_type U8 = false
has_number_type I16 = false
has_number_type U16 = false
has_number_type I32 = true
has_number_type U32 = true
has_number_type I64 = true
has_number_type U64 = true

abbrev pub is_number : ℕ → IntKind → Bool
is_number n kind = has_number_type kind && extended kind n == n

-- a type that is written has at most 255 stars: in a declaration, a cast or a `sizeof`
abbrev pub few_stars : ℕ → Bool
few_stars stars = nat_le stars 255

abbrev pub formed_base : Base → Bool
formed_base b.Void = true
formed_base (b.Int kind) = true
formed_base (b.Struct tag) = is_name tag

-- ---- expressions

abbrev pub expr_step : ExprKind-F Bool Bool → Bool
expr_step (e.Number n kind) = is_number n kind
expr_step (e.Text bytes) = true
expr_step (e.Var name) = is_name name
expr_step (e.Unary op a) = a
expr_step (e.Binary op a c) = a && c
expr_step (e.Assign op a c) = a && c
expr_step (e.StepBy up before a) = a
expr_step (e.Cond a c d) = a && c && d
expr_step (e.Call name all) = is_name name && every all
expr_step (e.Index a c) = a && c
expr_step (e.Member a name) = a && is_name name
expr_step (e.Arrow a name) = a && is_name name
expr_step (e.Cast base stars a) = formed_base base && few_stars stars && a
expr_step (e.SizeOfKind base stars) = formed_base base && few_stars stars
expr_step (e.SizeOfValue a) = a

abbrev pub formed_expr : Expr → Bool
formed_expr = fold-Expr Bool Bool expr_step (λ x. stands x.place && x.kind)

abbrev pub maybe_expr : Option Expr → Bool
maybe_expr None = true
maybe_expr (Some x) = formed_expr x

-- ---- declarations and initialisers

abbrev pub formed_decl : Decl → Bool
formed_decl d = stands d.place && formed_base d.base && few_stars d.stars && is_name d.name && list_all formed_expr d.counts

-- a list in braces has a part at least
abbrev pub init_step : InitKind-F Bool Bool → Bool
init_step (i.One x) = formed_expr x
init_step (i.Many all) = not (is_empty all) && every all

abbrev pub formed_init : Init → Bool
formed_init = fold-Init Bool Bool init_step (λ x. stands x.place && x.kind)

abbrev pub maybe_init : Option Init → Bool
maybe_init None = true
maybe_init (Some x) = formed_init x

-- ---- statements

-- of a statement: whether it is formed, whether it is a declaration, and whether it is a block
pub record Seen : Type 0 where
  pub formed : Bool
  pub declares : Bool
  pub braces : Bool

abbrev pub plain : Bool → Seen
plain t = record { formed = t; declares = false; braces = false }

-- a branch, or the body of a loop: a declaration stands there in a block of its own
abbrev pub is_branch : Seen → Bool
is_branch seen = seen.formed && not seen.declares

abbrev pub maybe_branch : Option Seen → Bool
maybe_branch None = true
maybe_branch (Some seen) = is_branch seen

abbrev pub stmt_step : StmtKind-F Seen Seen → Seen
stmt_step (s.Value value) = plain (maybe_expr value)
stmt_step (s.Local d init) = record { formed = formed_decl d && maybe_init init; declares = true; braces = false }
stmt_step (s.If test then other) = plain (formed_expr test && is_branch then && maybe_branch other)
stmt_step (s.While test body) = plain (formed_expr test && is_branch body)
stmt_step (s.DoWhile body test) = plain (is_branch body && formed_expr test)
stmt_step (s.For first test next body) = plain (maybe_expr first && maybe_expr test && maybe_expr next && is_branch body)
stmt_step s.Break = plain true
stmt_step s.Continue = plain true
stmt_step (s.Return value) = plain (maybe_expr value)
stmt_step (s.Block all) = record { formed = list_all (λ x. x.formed) all; declares = false; braces = true }

abbrev pub seen_stmt : Stmt → Seen
seen_stmt = fold-Stmt Seen Seen stmt_step (λ x. record x.kind { formed = stands x.place && x.kind.formed })

abbrev pub formed_stmt : Stmt → Bool
formed_stmt x = (seen_stmt x).formed

-- ---- the outermost level

-- the name of a function and each of its parameters have no counts
abbrev pub without_counts : Decl → Bool
without_counts d = formed_decl d && is_empty d.counts

-- the body of a function is a block
abbrev pub formed_body : Option Stmt → Bool
formed_body None = true
formed_body (Some x) = formed_stmt x && (seen_stmt x).braces

-- a struct has a member at least
abbrev pub formed_kind : ItemKind → Bool
formed_kind (k.Struct tag members) = is_name tag && not (is_empty members) && list_all formed_decl members
formed_kind (k.Var external d init) = formed_decl d && maybe_init init
formed_kind (k.Fun d params body) = without_counts d && list_all without_counts params && formed_body body

abbrev pub formed_item : Item → Bool
formed_item x = stands x.place && formed_kind x.kind

abbrev pub is_formed : Tree → Bool
is_formed tree = list_all formed_item tree.items

abbrev pub IsFormed : Tree → Type 0
IsFormed tree = is_formed tree ≡ true
