-- What is known of a source beside its tree when it is elaborated: the types and meanings that its nodes have in tree order, and where its
-- variables and literals stand. Tree order has children before their parent and goes from left to right.
use Rattle.std.specs.Prelude.{ℕ, ◌+◌, Option, None, Some, List, slice_index_or, slice_index}
use Rattle.mx_base.specs.declared.settings.Flags.{Flags}
use Rattle.c_types.specs.Types.{CType, Void, StructType}
use Rattle.c_check_rules.specs.declared.predeclared.Bind.{Bind}
use Rattle.c_check_rules.specs.declared.predeclared.Bind.TheVariants.{Global, Local, Fun, Service, Builtin}

-- where a parameter or local stands: in a private variable, or at an offset of the data frame
pub data Stand : Type 0 where
  Private : Stand
  Frame : (offset : ℕ) → Stand

-- of each parameter and local of a function where it stands, and the size of the data frame
pub record FrameLayout : Type 0 where
  pub size : ℕ
  pub stands : List Stand

-- where a source's objects stand: the symbols of its globals and functions by number, that of its literals, the offset of each literal behind
-- it, and the frames of its functions in the order of their bodies
pub record SourceLayout : Type 0 where
  pub globals : List ℕ
  pub functions : List ℕ
  pub texts : ℕ
  pub literals : List ℕ
  pub frames : List FrameLayout

-- the type of each expression; what each name is bound to that stands in an expression, or is declared as a variable or function; and the type of
-- each declaration: of these in tree order
pub record Meanings : Type 0 where
  pub kinds : List CType
  pub binds : List Bind
  pub declared : List CType

-- how far the tree was gone through: the number of the next expression, name, declaration, literal and body
pub record Reached : Type 0 where
  pub kind : ℕ
  pub name : ℕ
  pub declaration : ℕ
  pub literal : ℕ
  pub body : ℕ

abbrev pub start : Reached
start = record { kind = 0; name = 0; declaration = 0; literal = 0; body = 0 }

-- a function by its number: the types of its parameters and of its result
pub record Signature : Type 0 where
  pub result : CType
  pub parameters : List CType

-- all that an expression is elaborated by: the structs, with their members' names, and the functions of its source; its meanings and layout; the
-- flags; and of the function around it the types of its parameters and locals, where they stand, and the type of what it gives
pub record Around : Type 0 where
  pub structs : List StructType
  pub tags : List (List ℕ)
  pub members : List (List (List ℕ))
  pub signatures : List Signature
  pub meanings : Meanings
  pub layout : SourceLayout
  pub flags : Flags
  pub variables : List CType
  pub stands : List Stand
  pub result : CType

-- ---- what is known at a node

abbrev pub kind_at : Around → Reached → CType
kind_at around r = slice_index_or around.meanings.kinds r.kind Void

abbrev pub bind_at : Around → Reached → Bind
bind_at around r = slice_index_or around.meanings.binds r.name (Local 0)

abbrev pub declared_at : Around → Reached → CType
declared_at around r = slice_index_or around.meanings.declared r.declaration Void

abbrev pub literal_at : Around → Reached → ℕ
literal_at around r = slice_index around.layout.literals r.literal

-- a name that means no function, no variable or no global has no such number: `check` refuses it where one is needed
abbrev pub function_number : Bind → Option ℕ
function_number (Fun number) = Some number
function_number (Global number) = None
function_number (Local number) = None
function_number (Service service) = None
function_number (Builtin builtin) = None

abbrev pub local_number : Bind → Option ℕ
local_number (Local number) = Some number
local_number (Global number) = None
local_number (Fun number) = None
local_number (Service service) = None
local_number (Builtin builtin) = None

-- ---- on through the tree

abbrev pub past_kind : Reached → Reached
past_kind r = record r { kind = r.kind + 1 }

abbrev pub past_name : Reached → Reached
past_name r = record r { name = r.name + 1 }

abbrev pub past_literal : Reached → Reached
past_literal r = record r { literal = r.literal + 1 }

-- past the declaration of a variable or function, whose name means something, and of a member, whose name doesn't
abbrev pub past_declaration : Reached → Reached
past_declaration r = record r { declaration = r.declaration + 1; name = r.name + 1 }

abbrev pub past_member : Reached → Reached
past_member r = record r { declaration = r.declaration + 1 }

-- past a body
abbrev pub past_body : Reached → Reached
past_body r = record r { body = r.body + 1 }
