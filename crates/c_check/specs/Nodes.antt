-- The nodes of a source: which nodes are the parts of a node, and what is known before each. A part knows what the parts before it made known.
-- `out-ExprKind`, `out-InitKind` and `out-StmtKind` give the form of an expression, initialiser or statement with its parts.
use Rattle.std.specs.Prelude.{ℕ, ◌+◌, Bool, false, if◌then◌else◌, is_some, List, [], ◌∷◌, ◌++◌, map, Contains, Option, None, Some}
use Rattle.mx_base.specs.declared.places.Place.{Place}
use Rattle.c_tree.specs.declared.tree.Tree.{Tree}
use Rattle.c_tree.specs.declared.tree.Item.{Item}
use Rattle.c_tree.specs.declared.tree.ItemKind.{ItemKind}
use Rattle.c_tree.specs.declared.tree.ItemKind.TheVariants as k
use Rattle.c_tree.specs.declared.tree.Decl.{Decl}
use Rattle.c_tree.specs.declared.tree.Expr.{Expr}
use Rattle.c_tree.specs.declared.tree.ExprKind.{ExprKind, ExprKind-F, out-ExprKind}
use Rattle.c_tree.specs.declared.tree.ExprKind.TheOpen as e
use Rattle.c_tree.specs.declared.tree.Init.{Init}
use Rattle.c_tree.specs.declared.tree.InitKind.{InitKind, InitKind-F, out-InitKind}
use Rattle.c_tree.specs.declared.tree.InitKind.TheOpen as i
use Rattle.c_tree.specs.declared.tree.Stmt.{Stmt}
use Rattle.c_tree.specs.declared.tree.StmtKind.{StmtKind, StmtKind-F, out-StmtKind}
use Rattle.c_tree.specs.declared.tree.StmtKind.TheOpen as s
use Rattle.c_types.specs.Types.{CType}
use Rattle.c_check_rules.specs.declared.names.Member.{Member}
use Rattle.c_check_rules.specs.Names.{found_in, tag_at}
use Rattle.c_check_typing.specs.Rules.{params_of, params_after, takes_function}
use Rattle.c_check_statements.specs.declared.initialisers.Filled.{Filled}
use Rattle.c_check_statements.specs.declared.initialisers.Filled.TheVariants as f
use Rattle.c_check_statements.specs.declared.state.State.{State}
use Rattle.c_check_statements.specs.Walks.{reads}
use Rattle.c_check_statements.specs.Declarations.{Declared, local_declared, parameter_declared, global_declared, function_declared}
use Rattle.c_check_statements.specs.Initialisers.{fills, part, part_of}
use Rattle.c_check_statements.specs.Statements.{statement, enter_block, enter_body, enter_loop, looped}
use Rattle.c_check_statements.specs.Structs.{with_member, member_declared, with_struct}
use Rattle.c_check_statements.specs.Functions.{enter_function}
use Rattle.c_check_statements.specs.Sources.{item, is_definition, at_start}

-- ---- nodes

-- what a declaration declares: a member behind those before it, a parameter, a local, a global or a function
pub data Role : Type 0 where
  AsMember : (before : List Member) → Role
  AsParameter : Role
  AsLocal : Role
  AsGlobal : (defined : Bool) → Role
  AsFunction : (defined : Bool) → (params : List Decl) → Role

-- a node, with what is known before it: of an expression also whether the name of a function may stand there, and of an initialiser what it fills
pub data Node : Type 0 where
  OfExpr : Expr → (functions : Bool) → State → Node
  OfInit : Init → Filled → (target : Option CType) → State → Node
  OfDecl : Decl → Role → State → Node
  OfStmt : Stmt → State → Node
  OfItem : Item → State → Node

abbrev pub place_of : Node → Place
place_of (OfExpr x functions state) = x.place
place_of (OfInit x filled target state) = x.place
place_of (OfDecl d role state) = d.place
place_of (OfStmt x state) = x.place
place_of (OfItem x state) = x.place

abbrev pub declared_as : Role → Decl → State → Declared
declared_as (AsMember before) d = member_declared before d
declared_as AsParameter d = parameter_declared d
declared_as AsLocal d = local_declared d
declared_as (AsGlobal defined) d = global_declared defined d
declared_as (AsFunction defined params) d = function_declared defined params d

-- ---- parts that stand one after another

-- a part, and what is known behind it
pub record Turn : Type 0 where
  pub node : Node
  pub behind : State

-- the same by what is known before it
abbrev pub Stands : Type 0
Stands = State → Turn

abbrev pub in_turn : List Stands → State → List Node
in_turn [] state = []
in_turn (x ∷ more) state = (x state).node ∷ in_turn more (x state).behind

-- what is known behind all of them
abbrev pub behind_all : List Stands → State → State
behind_all [] state = state
behind_all (x ∷ more) state = behind_all more (x state).behind

abbrev pub expression : Expr → Stands
expression x state = record { node = OfExpr x false state; behind = (reads x state).state }

abbrev pub initialiser : Filled → Option CType → Init → Stands
initialiser filled target x state = record { node = OfInit x filled target state; behind = (fills x filled target state).state }

abbrev pub declaration : Role → Decl → Stands
declaration role d state = record { node = OfDecl d role state; behind = (declared_as role d state).state }

abbrev pub inner_statement : Stmt → Stands
inner_statement x state = record { node = OfStmt x state; behind = (statement x state).state }

abbrev pub loop_body : Stmt → Stands
loop_body x state = record { node = OfStmt x (enter_loop state); behind = (looped (statement x) state).state }

abbrev pub whole_item : Item → Stands
whole_item x state = record { node = OfItem x state; behind = (item x state).state }

-- what may be absent
abbrev pub any : {A : Type 0} → (A → Stands) → Option A → List Stands
any stands None = []
any stands (Some x) = stands x ∷ []

-- ---- the parts of an expression, which declare nothing

abbrev pub operand : State → Expr → Node
operand state x = OfExpr x false state

-- arguments of these parameters: the name of a function may stand where the parameter is a `void *`
abbrev pub argument_nodes : List CType → List Expr → State → List Node
argument_nodes params [] state = []
argument_nodes params (x ∷ more) state = OfExpr x (takes_function params) state ∷ argument_nodes (params_after params) more state

abbrev pub expr_parts : ExprKind-F ExprKind Expr → State → List Node
expr_parts (e.Number n kind) state = []
expr_parts (e.Text bytes) state = []
expr_parts (e.Var name) state = []
expr_parts (e.Unary op a) state = operand state a ∷ []
expr_parts (e.Binary op a b) state = operand state a ∷ operand state b ∷ []
expr_parts (e.Assign op a b) state = operand state a ∷ operand state b ∷ []
expr_parts (e.StepBy up before a) state = operand state a ∷ []
expr_parts (e.Cond c a b) state = operand state c ∷ operand state a ∷ operand state b ∷ []
expr_parts (e.Call name all) state = argument_nodes (params_of (found_in state.scope name)) all state
expr_parts (e.Index a b) state = operand state a ∷ operand state b ∷ []
expr_parts (e.Member a name) state = operand state a ∷ []
expr_parts (e.Arrow a name) state = operand state a ∷ []
expr_parts (e.Cast base stars a) state = operand state a ∷ []
expr_parts (e.SizeOfKind base stars) state = []
expr_parts (e.SizeOfValue a) state = operand state a ∷ []

-- ---- the parts of an initialiser, of which each fills the member or element of its place

abbrev pub part_at : Filled → Option CType → (at : ℕ) → Init → Stands
part_at filled target at x state = initialiser (part filled) (part_of state.scope.structs target at) x state

abbrev pub parts_at : Filled → Option CType → (at : ℕ) → List Init → List Stands
parts_at filled target at [] = []
parts_at filled target at (x ∷ more) = part_at filled target at x ∷ parts_at filled target (at + 1) more

abbrev pub init_parts : InitKind-F InitKind Init → Filled → Option CType → List Stands
init_parts (i.One x) filled target = expression x ∷ []
init_parts (i.Many all) filled target = parts_at filled target 0 all

-- ---- the parts of a statement: a local is known before its initialiser

abbrev pub stmt_parts : StmtKind-F StmtKind Stmt → State → List Stands
stmt_parts (s.Value value) state = any expression value
stmt_parts (s.Local d init) state = declaration AsLocal d ∷ any (initialiser f.Local (local_declared d state).kind) init
stmt_parts (s.If test a other) state = expression test ∷ inner_statement a ∷ any inner_statement other
stmt_parts (s.While test body) state = expression test ∷ loop_body body ∷ []
stmt_parts (s.DoWhile body test) state = loop_body body ∷ expression test ∷ []
stmt_parts (s.For first test next body) state = any expression first ++ (any expression test ++ (any expression next ++ loop_body body ∷ []))
stmt_parts s.Break state = []
stmt_parts s.Continue state = []
stmt_parts (s.Return value) state = any expression value
stmt_parts (s.Block all) state = map inner_statement all

-- a block has names of its own, but for a function's body, whose names stand beside the parameters
abbrev pub stmt_enter : StmtKind-F StmtKind Stmt → State → State
stmt_enter (s.Block all) state = if state.scope.at_body then enter_body state else enter_block state
stmt_enter _ state = state

-- ---- the parts of an item

-- a tag that is not known before is known to the members
abbrev pub is_tag : List ℕ → State → Bool
is_tag tag state = is_some (tag_at state.scope tag)

abbrev pub enter_struct : List ℕ → State → State
enter_struct tag state = if is_tag tag state then state else with_struct tag state

abbrev pub member_nodes : (before : List Member) → List Decl → State → List Node
member_nodes before [] state = []
member_nodes before (d ∷ more) state = OfDecl d (AsMember before) state
    ∷ member_nodes (with_member d.name (member_declared before d state).kind before) more (member_declared before d state).state

abbrev pub global_parts : (external : Bool) → Decl → Option Init → State → List Stands
global_parts external d init state = declaration (AsGlobal (is_definition external init)) d ∷ any (initialiser f.Global (global_declared (is_definition external init) d state).kind) init

-- behind the declaration of a function its own names begin
abbrev pub function_name : Decl → List Decl → Option Stmt → Stands
function_name d params body state = record {
  node = OfDecl d (AsFunction (is_some body) params) state;
  behind = enter_function (function_declared (is_some body) params d state).kind (function_declared (is_some body) params d state).state;
}

abbrev pub function_parts : Decl → List Decl → Option Stmt → List Stands
function_parts d params body = function_name d params body ∷ (map (declaration AsParameter) params ++ any inner_statement body)

abbrev pub item_parts : ItemKind → State → List Node
item_parts (k.Struct tag members) state = member_nodes [] members (enter_struct tag state)
item_parts (k.Var external d init) state = in_turn (global_parts external d init state) state
item_parts (k.Fun d params body) state = in_turn (function_parts d params body) state

-- ---- the parts of a node, from left to right; those of a declaration are its counts

abbrev pub parts_of : Node → List Node
parts_of (OfExpr x functions state) = expr_parts (out-ExprKind x.kind) state
parts_of (OfInit x filled target state) = in_turn (init_parts (out-InitKind x.kind) filled target) state
parts_of (OfDecl d role state) = map (operand state) d.counts
parts_of (OfStmt x state) = in_turn (stmt_parts (out-StmtKind x.kind) state) (stmt_enter (out-StmtKind x.kind) state)
parts_of (OfItem x state) = item_parts x.kind state

-- ---- the nodes of a source

-- a node is in another one where it is that one, or in a part of it
pub data IsIn : Node → Node → Type 0 where
  itself : {node : Node} → IsIn node node
  within : {node part whole : Node} → Contains (parts_of whole) part → IsIn node part → IsIn node whole

-- an item knows what those before it made known
abbrev pub item_nodes : Tree → List Node
item_nodes tree = in_turn (map whole_item tree.items) at_start

abbrev pub IsInTree : Tree → Node → Type 0
IsInTree tree node = (top : Node) × Contains (item_nodes tree) top × IsIn node top

-- nodes with all that is in them, in tree order: the parts of a node before it, from left to right
pub data Listed : List Node → List Node → Type 0 where
  none : Listed [] []
  next : {node : Node} {more inner others : List Node} → Listed (parts_of node) inner → Listed more others → Listed (node ∷ more) (inner ++ node ∷ others)
