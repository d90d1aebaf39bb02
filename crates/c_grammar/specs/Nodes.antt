-- The nodes that the rules make of what they read.
use Rattle.std.specs.Prelude.{ℕ, Bool, true, false, List, [], ◌∷◌, map, Option, Some, None}
use Rattle.mx_base.specs.declared.places.Place.{Place}
use Rattle.mx_base.specs.declared.numbers.IntKind.{IntKind}
use Rattle.mx_base.specs.declared.numbers.IntKind.TheVariants.{I8, U8, I16, U16, I32, U32, I64, U64}
use Rattle.mx_base.specs.Numbers.{extended}
use Rattle.mx_base.specs.declared.operators.Arithmetic.{Arithmetic}
use Rattle.mx_base.specs.declared.operators.Arithmetic.TheVariants.{Mul, Div, Rem, Add, Sub, Shl, Shr, BitAnd, BitXor, BitOr}
use Rattle.mx_base.specs.declared.operators.Comparison.TheVariants.{Less, LessOrEqual, Greater, GreaterOrEqual, Equal, NotEqual}
use Rattle.c_tokens.specs.declared.class.Class.{Class}
use Rattle.c_tokens.specs.declared.class.Class.TheVariants as k
use Rattle.c_tokens.specs.declared.numbers.Number.{Number}
use Rattle.c_tokens.specs.Numbers.{number_of}
use Rattle.c_tokens.specs.Quotes.{text_of, character_of}
use Rattle.c_tree.specs.declared.operators.BinaryOp.{BinaryOp}
use Rattle.c_tree.specs.declared.operators.BinaryOp.TheVariants as o
use Rattle.c_tree.specs.declared.operators.Logical.TheVariants.{And, Or}
use Rattle.c_tree.specs.declared.operators.UnaryOp.TheVariants.{Neg, BitNot, Not, Deref, AddressOf}
use Rattle.c_tree.specs.declared.tree.Base.{Base}
use Rattle.c_tree.specs.declared.tree.Decl.{Decl}
use Rattle.c_tree.specs.declared.tree.Expr.{Expr}
use Rattle.c_tree.specs.declared.tree.ExprKind.{ExprKind}
use Rattle.c_tree.specs.declared.tree.ExprKind.TheVariants as e
use Rattle.c_tree.specs.declared.tree.Init.{Init}
use Rattle.c_tree.specs.declared.tree.InitKind.TheVariants as i
use Rattle.c_tree.specs.declared.tree.Stmt.{Stmt}
use Rattle.c_tree.specs.declared.tree.StmtKind.{StmtKind}
use Rattle.c_tree.specs.declared.tree.StmtKind.TheVariants as s
use Rattle.c_tree.specs.declared.tree.Item.{Item}
use Rattle.c_tree.specs.declared.tree.ItemKind.{ItemKind}
use Rattle.c_tree.specs.declared.tree.ItemKind.TheVariants as it
use Rattle.c_grammar.specs.declared.parts.Mark.{Mark}
use Rattle.c_grammar.specs.declared.parts.Named.{Named}
use Rattle.c_grammar.specs.declared.parts.Operand.{Operand}
use Rattle.c_grammar.specs.declared.parts.Typed.{Typed}
use Rattle.c_grammar.specs.declared.parts.KindName.{KindName}
use Rattle.c_grammar.specs.declared.parts.Declarator.{Declarator}
use Rattle.c_grammar.specs.declared.parts.InitDeclarator.{InitDeclarator}
use Rattle.c_grammar.specs.Lexemes.{Lexeme}

-- ---- tokens

abbrev pub place_of : Lexeme → Place
place_of t = t.place

abbrev pub mark_of : Lexeme → Mark
mark_of t = record { place = t.place; class = t.class }

abbrev pub named_of : Lexeme → Named
named_of t = record { place = t.place; name = t.text }

-- a node at a place, which begins there
abbrev pub node : Place → ExprKind → Operand
node place kind = record { start = place; tree = record { place = place; kind = kind } }

-- a number by its word and its type
abbrev pub number_kind : Option Number → ExprKind
number_kind None = e.Number 0 I32
number_kind (Some n) = e.Number n.value n.kind

-- a character is an `int`, of the value that its byte has as a `char`
abbrev pub character_kind : Option ℕ → ExprKind
character_kind None = e.Number 0 I32
character_kind (Some byte) = e.Number (extended I8 byte) I32

abbrev pub text_kind : Option (List ℕ) → ExprKind
text_kind None = e.Text []
text_kind (Some bytes) = e.Text bytes

abbrev pub number_at : Lexeme → Operand
number_at t = node t.place (number_kind (number_of t.text))

abbrev pub character_at : Lexeme → Operand
character_at t = node t.place (character_kind (character_of t.text))

abbrev pub text_at : Lexeme → Operand
text_at t = node t.place (text_kind (text_of t.text))

-- ---- types

-- `char`, `short`, `int` and `long`, which are signed where nothing else is said
abbrev pub width_of : Class → IntKind
width_of k.Char = I8
width_of k.Short = I16
width_of k.Long = I64
width_of _ = I32

abbrev pub width_at : Lexeme → (Place × IntKind)
width_at t = (t.place, width_of t.class)

abbrev pub unsigned_of : IntKind → IntKind
unsigned_of I8 = U8
unsigned_of I16 = U16
unsigned_of I32 = U32
unsigned_of I64 = U64
unsigned_of kind = kind

abbrev pub typed_at : Place → Base → Typed
typed_at start base = record { start = start; base = base }

abbrev pub kind_name : Typed → ℕ → KindName
kind_name typed stars = record { base = typed.base; stars = stars }

-- ---- expressions

-- the operator of a token between two operands
abbrev pub binary_op : Class → BinaryOp
binary_op k.Slash = o.Arithmetic Div
binary_op k.Percent = o.Arithmetic Rem
binary_op k.Plus = o.Arithmetic Add
binary_op k.Minus = o.Arithmetic Sub
binary_op k.ShiftLeft = o.Arithmetic Shl
binary_op k.ShiftRight = o.Arithmetic Shr
binary_op k.Less = o.Comparison Less
binary_op k.LessEqual = o.Comparison LessOrEqual
binary_op k.Greater = o.Comparison Greater
binary_op k.GreaterEqual = o.Comparison GreaterOrEqual
binary_op k.EqualEqual = o.Comparison Equal
binary_op k.NotEqual = o.Comparison NotEqual
binary_op k.And = o.Arithmetic BitAnd
binary_op k.Xor = o.Arithmetic BitXor
binary_op k.Or = o.Arithmetic BitOr
binary_op k.AndAnd = o.Logical And
binary_op k.OrOr = o.Logical Or
binary_op _ = o.Arithmetic Mul

-- what a compound assignment calculates; `=` assigns and calculates nothing
abbrev pub assign_op : Class → Option Arithmetic
assign_op k.PlusAssign = Some Add
assign_op k.MinusAssign = Some Sub
assign_op k.StarAssign = Some Mul
assign_op k.SlashAssign = Some Div
assign_op k.PercentAssign = Some Rem
assign_op k.AndAssign = Some BitAnd
assign_op k.OrAssign = Some BitOr
assign_op k.XorAssign = Some BitXor
assign_op k.ShiftLeftAssign = Some Shl
assign_op k.ShiftRightAssign = Some Shr
assign_op _ = None

-- what an operator before its operand makes of it
abbrev pub prefix_kind : Class → Expr → ExprKind
prefix_kind k.Tilde a = e.Unary BitNot a
prefix_kind k.Not a = e.Unary Not a
prefix_kind k.Star a = e.Unary Deref a
prefix_kind k.And a = e.Unary AddressOf a
prefix_kind k.PlusPlus a = e.StepBy true true a
prefix_kind k.MinusMinus a = e.StepBy false true a
prefix_kind _ a = e.Unary Neg a

-- an operator before its operand
abbrev pub prefixed : Mark → Operand → Operand
prefixed op a = node op.place (prefix_kind op.class a.tree)

-- an operator between its operands begins where the left one begins
abbrev pub joined : Mark → Operand → Operand → Operand
joined op left right = node left.start (e.Binary (binary_op op.class) left.tree right.tree)

abbrev pub assigned : Mark → Operand → Operand → Operand
assigned op left right = node left.start (e.Assign (assign_op op.class) left.tree right.tree)

abbrev pub chosen : Operand → Operand → Operand → Operand
chosen test then other = node test.start (e.Cond test.tree then.tree other.tree)

abbrev pub cast_at : Place → KindName → Operand → Operand
cast_at start kind a = node start (e.Cast kind.base kind.stars a.tree)

abbrev pub size_of_kind : Place → KindName → Operand
size_of_kind start kind = node start (e.SizeOfKind kind.base kind.stars)

abbrev pub size_of_value : Place → Operand → Operand
size_of_value start a = node start (e.SizeOfValue a.tree)

abbrev pub variable : Named → Operand
variable name = node name.place (e.Var name.name)

abbrev pub called : Named → List Expr → Operand
called name args = node name.place (e.Call name.name args)

abbrev pub indexed : Operand → Operand → Operand
indexed left at = node left.start (e.Index left.tree at.tree)

abbrev pub member : Operand → Named → Operand
member left name = node left.start (e.Member left.tree name.name)

abbrev pub pointed : Operand → Named → Operand
pointed left name = node left.start (e.Arrow left.tree name.name)

abbrev pub stepped : Bool → Operand → Operand
stepped up left = node left.start (e.StepBy up false left.tree)

-- an expression in parentheses begins with them
abbrev pub enclosed : Place → Operand → Operand
enclosed start a = record { start = start; tree = a.tree }

-- ---- declarations

abbrev pub decl : Place → Base → ℕ → List ℕ → List Expr → Decl
decl place base stars name counts = record { place = place; base = base; stars = stars; name = name; counts = counts }

abbrev pub declarator : Place → ℕ → Named → List Expr → Declarator
declarator start stars name counts = record { start = start; stars = stars; name = name.name; counts = counts }

abbrev pub initialised : Place → ℕ → Named → List Expr → Option Init → InitDeclarator
initialised start stars name counts init = record { declarator = declarator start stars name counts; init = init }

-- one name of a declaration, which begins at a place
abbrev pub decl_from : Place → Base → Declarator → Decl
decl_from place base d = decl place base d.stars d.name d.counts

-- a later name of a declaration begins where its own part begins
abbrev pub later_decl : Base → Declarator → Decl
later_decl base d = decl_from d.start base d

abbrev pub decls_of : Typed → Declarator → List Declarator → List Decl
decls_of typed first more = decl_from typed.start typed.base first ∷ map (later_decl typed.base) more

abbrev pub parameter : Place → Base → ℕ → Named → Decl
parameter place base stars name = decl place base stars name.name []

abbrev pub one_init : Operand → Init
one_init a = record { place = a.start; kind = i.One a.tree }

abbrev pub many_inits : Place → Init → List Init → Init
many_inits place first more = record { place = place; kind = i.Many (first ∷ more) }

-- ---- items

abbrev pub item : Place → ItemKind → Item
item place kind = record { place = place; kind = kind }

abbrev pub struct_item : Place → List ℕ → List Decl → List Item
struct_item start tag members = item start (it.Struct tag members) ∷ []

abbrev pub function_item : Place → Base → ℕ → Named → List Decl → Option Stmt → List Item
function_item start base stars name params body = item start (it.Fun (parameter start base stars name) params body) ∷ []

-- a later name of a global declaration
abbrev pub later_global : Bool → Base → InitDeclarator → Item
later_global external base d = item d.declarator.start (it.Var external (later_decl base d.declarator) d.init)

-- a global declaration that begins at a place, of which the first name begins at its base
abbrev pub globals_of : Place → Bool → Typed → InitDeclarator → List InitDeclarator → List Item
globals_of start external typed first more =
    item start (it.Var external (decl_from typed.start typed.base first.declarator) first.init) ∷ map (later_global external typed.base) more

-- ---- statements

abbrev pub stmt : Place → StmtKind → Stmt
stmt place kind = record { place = place; kind = kind }

abbrev pub later_local : Base → InitDeclarator → Stmt
later_local base d = stmt d.declarator.start (s.Local (later_decl base d.declarator) d.init)

abbrev pub locals_of : Typed → InitDeclarator → List InitDeclarator → List Stmt
locals_of typed first more = stmt typed.start (s.Local (decl_from typed.start typed.base first.declarator) first.init) ∷ map (later_local typed.base) more

abbrev pub value_of : Operand → Stmt
value_of a = stmt a.start (s.Value (Some a.tree))
