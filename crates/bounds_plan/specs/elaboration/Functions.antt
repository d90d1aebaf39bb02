-- What the functions of a source are in the core tree. The source is gone through from its front on, and what it has declared so far is known.
use Rattle.std.specs.Prelude.{ℕ, ◌+◌, nat_lt, Bool, if◌then◌else◌, Option, None, Some, List, [], ◌∷◌, ◌++◌, map, length, take, drop, slice_index_or}
use Rattle.mx_base.specs.declared.numbers.IntKind.{IntKind}
use Rattle.mx_base.specs.declared.settings.Flags.{Flags}
use Rattle.c_tree.specs.declared.tree.Tree.{Tree}
use Rattle.c_tree.specs.declared.tree.Item.{Item}
use Rattle.c_tree.specs.declared.tree.ItemKind.{ItemKind}
use Rattle.c_tree.specs.declared.tree.ItemKind.TheVariants as k
use Rattle.c_tree.specs.declared.tree.Decl.{Decl}
use Rattle.c_tree.specs.declared.tree.Expr.{Expr}
use Rattle.c_tree.specs.declared.tree.Init.{Init}
use Rattle.c_tree.specs.declared.tree.Stmt.{Stmt}
use Rattle.c_types.specs.Types.{CType, Void, StructType}
use Rattle.bounds_plan.specs.meaning.Core.{Null, Statement}
use Rattle.bounds_plan.specs.meaning.Functions.{Parameter, Private as PrivateParameter, Framed, Framed_variable, FunctionOfC}
use Rattle.bounds_plan.specs.elaboration.Types.{Sort, ANumber, APointer, AWhole, NoValue, sort_of, size_in}
use Rattle.bounds_plan.specs.elaboration.Source.{Stand, Private, Frame, FrameLayout, SourceLayout, Meanings, Reached, start, Signature, Around, declared_at, bind_at, past_declaration, past_member, past_body, function_number}
use Rattle.bounds_plan.specs.elaboration.Places.{InMemory, private_values_of, private_values, offset_of}
use Rattle.bounds_plan.specs.elaboration.Expressions.{Reading, expression}
use Rattle.bounds_plan.specs.elaboration.Initialisers.{Filling, initialiser}
use Rattle.bounds_plan.specs.elaboration.Statements.{Stating, past_counts, maybe, declarations, statement_by}

-- ---- variables of a function

-- a pointer has no integer type
abbrev pub kind_in : Sort → Option IntKind
kind_in (ANumber kind) = Some kind
kind_in APointer = None
kind_in AWhole = None
kind_in NoValue = None

-- a parameter of this sort, whose first private value is x, if it has one
abbrev pub parameter_at : Sort → Stand → (x : ℕ) → Parameter
parameter_at (ANumber kind) Private x = PrivateParameter x (Some kind)
parameter_at APointer Private x = PrivateParameter x None
parameter_at AWhole Private x = Framed 0 None
parameter_at NoValue Private x = Framed 0 None
parameter_at sort (Frame offset) x = Framed offset (kind_in sort)

-- parameters of these types, of which the first has its private values from x on
abbrev pub parameters_from : (x : ℕ) → List CType → List Stand → List Parameter
parameters_from x [] stands = []
parameters_from x (t ∷ ts) [] = Framed 0 (kind_in (sort_of t)) ∷ parameters_from x ts []
parameters_from x (t ∷ ts) (s ∷ ss) = parameter_at (sort_of t) s x ∷ parameters_from (x + length (private_values_of (sort_of t) s)) ts ss

-- the variables in the data frame: all that have no private value
abbrev pub framed : List Bool → (offset size : ℕ) → List Framed_variable → List Framed_variable
framed [] offset size rest = record { offset = offset; size = size } ∷ rest
framed (v ∷ vs) offset size rest = rest

abbrev pub framed_variables : List StructType → List CType → List Stand → List Framed_variable
framed_variables structs [] stands = []
framed_variables structs (t ∷ ts) [] = []
framed_variables structs (t ∷ ts) (s ∷ ss) = framed (private_values_of (sort_of t) s) (offset_of s) (size_in structs t) (framed_variables structs ts ss)

-- ---- a source that was gone through so far

-- a function with a body: its number, and what it does
pub record Defined : Type 0 where
  pub number : ℕ
  pub function : FunctionOfC

-- what is known so far, how far the tree was gone through, and the functions with a body, in order
pub record Gone : Type 0 where
  pub around : Around
  pub after : Reached
  pub functions : List Defined

-- the types of declarations one after another, and how far the tree was gone through after them, where `past` goes past one of them
pub record Declared : Type 0 where
  pub types : List CType
  pub after : Reached

abbrev pub declared_all : (Expr → Reading) → (past : Reached → Reached) → List Decl → Around → Reached → Declared
declared_all read past [] around r = record { types = []; after = r }
declared_all read past (d ∷ more) around r = let here = past_counts read d around r in let rest = declared_all read past more around (past here) in
    record { types = declared_at around here ∷ rest.types; after = rest.after }

-- ---- structs and globals

-- a struct is the next one, with the types and names of its members
abbrev pub with_struct : (tag : List ℕ) → List Decl → List CType → Around → Around
with_struct tag members types around = record around {
  structs = record { number = length around.tags; members = types } ∷ around.structs;
  tags = around.tags ++ tag ∷ [];
  members = around.members ++ map (λ (d : Decl). d.name) members ∷ [];
}

-- the initialiser of a global is gone through; its bytes are there when the program starts
abbrev pub past_initialiser : Option Filling → Around → CType → Reached → Reached
past_initialiser None around type r = r
past_initialiser (Some init) around type r = (init around type (InMemory Null) 0 r).after

-- ---- functions

-- a function that was not declared before is the next one
abbrev pub with_signature : (number : ℕ) → Signature → Around → Around
with_signature number s around = if nat_lt number (length around.signatures) then around else record around { signatures = around.signatures ++ s ∷ [] }

abbrev pub no_frame : FrameLayout
no_frame = record { size = 0; stands = [] }

-- what is around the body of a function that gives this type
abbrev pub in_body : List CType → List Stand → (result : CType) → Around → Around
in_body variables stands result around = record around { variables = variables; stands = stands; result = result }

-- the types of the next declarations
abbrev pub next_types : Around → Reached → (count : ℕ) → List CType
next_types around r count = take count (drop r.declaration around.meanings.declared)

-- a function by the types of its parameters, those of its parameters and locals, its frame, and its body
abbrev pub function_with : List StructType → (parameters variables : List CType) → FrameLayout → Statement → FunctionOfC
function_with structs parameters variables frame body = record {
  parameters = parameters_from 0 parameters frame.stands;
  privates = private_values variables frame.stands;
  variables = framed_variables structs variables frame.stands;
  frame = frame.size;
  body = body;
}

-- a body with the number of its declarations
pub record Body : Type 0 where
  pub declarations : ℕ
  pub stating : Stating

abbrev pub body_by : (Stmt → Stating) → (Stmt → ℕ) → Stmt → Body
body_by state count b = record { declarations = count b; stating = state b }

-- the body of a function is elaborated, once its parameters were gone through
abbrev pub with_body : Option Body → (number : ℕ) → Signature → Gone → Gone
with_body None number s gone = gone
with_body (Some b) number s gone = let frame = slice_index_or gone.around.layout.frames gone.after.body no_frame in
    let variables = s.parameters ++ next_types gone.around gone.after b.declarations in
    let x = b.stating (in_body variables frame.stands s.result gone.around) gone.after in
    record gone { after = past_body x.after; functions = gone.functions ++ record { number = number; function = function_with gone.around.structs s.parameters variables frame x.statement } ∷ [] }

-- a function is known from its declarator on, so also in its own body
abbrev pub with_known : Option ℕ → Signature → Option Body → Gone → Gone
with_known None s body gone = gone
with_known (Some number) s body gone = with_body body number s record gone { around = with_signature number s gone.around }

-- the declaration of a function: its name, with the type of its result, and then its parameters
abbrev pub with_function : (Expr → Reading) → Decl → List Decl → Option Body → Gone → Gone
with_function read d params body gone = let first = past_declaration gone.after in
    let ps = declared_all read past_declaration params gone.around first in
    let s : Signature = record { result = declared_at gone.around gone.after; parameters = ps.types } in
    with_known (function_number (bind_at gone.around gone.after)) s body record gone { after = ps.after }

-- ---- the source

abbrev pub after_item : (Expr → Reading) → (Init → Filling) → (Stmt → Body) → Gone → ItemKind → Gone
after_item read fill state gone (k.Struct tag members) = let ms = declared_all read past_member members gone.around gone.after in
    record gone { around = with_struct tag members ms.types gone.around; after = ms.after }
after_item read fill state gone (k.Var external d init) = let here = past_counts read d gone.around gone.after in
    record gone { after = past_initialiser (maybe fill init) gone.around (declared_at gone.around here) (past_declaration here) }
after_item read fill state gone (k.Fun d params body) = with_function read d params (maybe state body) gone

abbrev pub after_items : (Expr → Reading) → (Init → Filling) → (Stmt → Body) → Gone → List Item → Gone
after_items read fill state gone [] = gone
after_items read fill state gone (x ∷ more) = after_items read fill state (after_item read fill state gone x.kind) more

abbrev pub at_start : Meanings → SourceLayout → Flags → Gone
at_start meanings layout flags = record {
  around = record { structs = []; tags = []; members = []; signatures = []; meanings = meanings; layout = layout; flags = flags; variables = []; stands = []; result = Void };
  after = start;
  functions = [];
}

-- a source gone through, by what is found of its expressions, initialisers and bodies
unfoldable pub gone_by : (Expr → Reading) → (Init → Filling) → (Stmt → Body) → Tree → Meanings → SourceLayout → Flags → Gone
gone_by read fill state tree meanings layout flags = after_items read fill state (at_start meanings layout flags) tree.items

abbrev pub gone_through : Tree → Meanings → SourceLayout → Flags → Gone
gone_through = gone_by expression (initialiser expression) (body_by (statement_by expression (initialiser expression)) declarations)

-- the functions with a body of a source, in order
abbrev pub elaborated : Tree → Meanings → SourceLayout → Flags → List Defined
elaborated tree meanings layout flags = (gone_through tree meanings layout flags).functions

-- what its functions take and give, by number
abbrev pub signatures_of : Tree → Meanings → SourceLayout → Flags → List Signature
signatures_of tree meanings layout flags = (gone_through tree meanings layout flags).around.signatures
