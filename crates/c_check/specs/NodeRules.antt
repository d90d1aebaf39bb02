-- The rules that each node breaks by itself, by what is known before it and of its parts, in the order of their kinds. Where nothing is known of a
-- part, since it breaks a rule itself, the rules that need its value or type are not judged.
use Rattle.std.specs.Prelude.{◌≡◌, ◌↔◌, ℕ, Bool, true, false, not, is_some, List, [], ◌∷◌, ◌++◌, length, map, flat_map, Contains, Option, Some}
use Rattle.mx_base.specs.declared.places.Place.{Place}
use Rattle.c_tree.specs.declared.tree.Tree.{Tree}
use Rattle.c_tree.specs.declared.tree.Item.{Item}
use Rattle.c_tree.specs.declared.tree.ItemKind.{ItemKind}
use Rattle.c_tree.specs.declared.tree.ItemKind.TheVariants as k
use Rattle.c_tree.specs.declared.tree.Decl.{Decl}
use Rattle.c_tree.specs.declared.tree.Expr.{Expr}
use Rattle.c_tree.specs.declared.tree.ExprKind.{ExprKind, ExprKind-F, out-ExprKind}
use Rattle.c_tree.specs.declared.tree.ExprKind.TheOpen as e
use Rattle.c_tree.specs.declared.tree.Init.{Init}
use Rattle.c_tree.specs.declared.tree.InitKind.{InitKind, InitKind-F, out-InitKind}
use Rattle.c_tree.specs.declared.tree.InitKind.TheOpen as i
use Rattle.c_tree.specs.declared.tree.Stmt.{Stmt}
use Rattle.c_tree.specs.declared.tree.StmtKind.{StmtKind, StmtKind-F, out-StmtKind}
use Rattle.c_tree.specs.declared.tree.StmtKind.TheOpen as s
use Rattle.c_tree.specs.Count.{tree_nodes}
use Rattle.c_types.specs.Types.{CType}
use Rattle.c_check_rules.specs.declared.names.Scope.{Scope}
use Rattle.c_check_rules.specs.Names.{found_in}
use Rattle.c_check_typing.specs.declared.typed.Typed.{Typed}
use Rattle.c_check_typing.specs.declared.fault.CheckKind.{CheckKind}
use Rattle.c_check_typing.specs.declared.fault.CheckKind.TheVariants.{TooLarge, LargeData, Twice, BadCount}
use Rattle.c_check_typing.specs.declared.fault.Broken.{Broken}
use Rattle.c_check_typing.specs.Refusals.{breaks, all_at}
use Rattle.c_check_typing.specs.Notes.{Own, with_typed}
use Rattle.c_check_typing.specs.Rules as rule
use Rattle.c_check_typing.specs.Expressions.{seen, arguments}
use Rattle.c_check_statements.specs.declared.decls.Use.{Use}
use Rattle.c_check_statements.specs.declared.decls.Use.TheVariants as u
use Rattle.c_check_statements.specs.declared.initialisers.Filled.{Filled}
use Rattle.c_check_statements.specs.declared.state.State.{State}
use Rattle.c_check_statements.specs.Walks.{seen_in, maybe_reads}
use Rattle.c_check_statements.specs.Declarations.{decl_kinds, kind_of, counts_of, is_here, is_main, global_twice, function_twice, local_declared}
use Rattle.c_check_statements.specs.Initialisers.{fills, one_kinds, many_kinds}
use Rattle.c_check_statements.specs.Statements.{statement, test_kinds, seen_test, return_kinds, local_kinds, jump_kinds, looped}
use Rattle.c_check_statements.specs.Structs.{Gathered, gathered, is_member, laid_struct}
use Rattle.c_check_statements.specs.Functions.{function_kinds}
use Rattle.c_check_statements.specs.Sources.{item}
use Rattle.c_check.specs.Accepted.{broken, at_first, is_too_large, is_data_large, after}
use Rattle.c_check.specs.Nodes.{Role, AsMember, AsParameter, AsLocal, AsGlobal, AsFunction, Node, OfExpr, OfInit, OfDecl, OfStmt, OfItem, place_of, declared_as, behind_all, init_parts, stmt_parts, stmt_enter, is_tag, enter_struct, function_parts, item_nodes, IsInTree, Listed}

-- ---- expressions

-- a rule of one, two or three values, where all of them are known
abbrev pub of_one : State → Expr → (Typed → Own) → Own
of_one state a own = with_typed (seen_in state a).typed own

abbrev pub of_two : State → Expr → Expr → (Typed → Typed → Own) → Own
of_two state a b own = of_one state a (λ t. of_one state b (own t))

abbrev pub of_three : State → Expr → Expr → Expr → (Typed → Typed → Typed → Own) → Own
of_three state c a b own = of_one state c (λ t. of_two state a b (own t))

-- whether all arguments fit, where all of them are known
abbrev pub arguments_fit : State → List ℕ → List Expr → Option Bool
arguments_fit state name all = (arguments state.scope (Some true) (rule.params_of (found_in state.scope name)) (map seen all)).fit

abbrev pub expr_own : ExprKind-F ExprKind Expr → (functions : Bool) → State → Own
expr_own (e.Number n kind) functions state = rule.number_own n kind
expr_own (e.Text bytes) functions state = rule.text_own bytes
expr_own (e.Var name) functions state = rule.name_own functions (found_in state.scope name)
expr_own (e.Unary op a) functions state = of_one state a (rule.unary_own state.scope.structs op)
expr_own (e.Binary op a b) functions state = of_two state a b (rule.binary_own state.scope.structs op)
expr_own (e.Assign op a b) functions state = of_two state a b (rule.assign_own state.scope.structs op)
expr_own (e.StepBy up before a) functions state = of_one state a (rule.step_own state.scope.structs)
expr_own (e.Cond c a b) functions state = of_three state c a b rule.choice_own
expr_own (e.Call name all) functions state = rule.call_own (found_in state.scope name) (arguments_fit state name all)
expr_own (e.Index a b) functions state = of_two state a b (rule.index_own state.scope.structs)
expr_own (e.Member a name) functions state = of_one state a (rule.member_own state.scope.structs name)
expr_own (e.Arrow a name) functions state = of_one state a (rule.arrow_own state.scope.structs name)
expr_own (e.Cast base stars a) functions state = rule.cast_own state.scope base stars (seen_in state a).typed
expr_own (e.SizeOfKind base stars) functions state = rule.size_of_kind_own state.scope base stars
expr_own (e.SizeOfValue a) functions state = of_one state a (λ t. rule.size_own state.scope.structs t.kind)

-- ---- initialisers, by what is known before them and behind their parts

abbrev pub init_rules : InitKind-F InitKind Init → Filled → Option CType → (before behind : State) → List CheckKind
init_rules (i.One x) filled target before behind = one_kinds filled target (seen_in before x).typed
init_rules (i.Many all) filled target before behind = many_kinds behind.scope.structs target (length all)

-- ---- declarations

-- of this use, whose name stands there already or not by its type, and that is wrong by its name or not
abbrev pub decl_rules_by : Use → (twice : Scope → Option CType → Bool) → (wrong : Bool) → Decl → State → List CheckKind
decl_rules_by usage twice wrong d state = decl_kinds state.scope usage (twice state.scope (kind_of state.scope d (counts_of state d).counts)) wrong d (counts_of state d).counts

abbrev pub decl_rules : Role → Decl → State → List CheckKind
decl_rules (AsMember before) d = decl_rules_by u.Variable (λ scope kind. is_member d.name before) false d
decl_rules AsParameter d = decl_rules_by u.Parameter (is_here d.name) false d
decl_rules AsLocal d = decl_rules_by u.Variable (is_here d.name) false d
decl_rules (AsGlobal defined) d = decl_rules_by u.Variable (global_twice d.name) (is_main d.name) d
decl_rules (AsFunction defined params) d = decl_rules_by u.Result (function_twice d.name params) false d

-- ---- statements, by what is known before them and behind their parts

abbrev pub stmt_rules : StmtKind-F StmtKind Stmt → (before behind : State) → List CheckKind
stmt_rules (s.Value value) before behind = []
stmt_rules (s.Local d init) before behind = local_kinds behind.scope.structs init (local_declared d before).kind
stmt_rules (s.If test a other) before behind = test_kinds (seen_in before test).typed
stmt_rules (s.While test body) before behind = test_kinds (seen_in before test).typed
stmt_rules (s.DoWhile body test) before behind = test_kinds (seen_in (looped (statement body) before).state test).typed
stmt_rules (s.For first test next body) before behind = test_kinds (seen_test (maybe_reads first before).state test)
stmt_rules s.Break before behind = jump_kinds before
stmt_rules s.Continue before behind = jump_kinds before
stmt_rules (s.Return value) before behind = return_kinds behind.scope.result value (seen_test before value)
stmt_rules (s.Block all) before behind = []

-- ---- items: a global breaks no rule beside those of its declaration and initialiser

abbrev pub struct_rules_by : (known : Bool) → Gathered → List CheckKind
struct_rules_by true g = Twice ∷ []
struct_rules_by false g = breaks BadCount (not (is_some (laid_struct g.state.scope.structs g.members)))

abbrev pub struct_rules : List ℕ → List Decl → State → List CheckKind
struct_rules tag members state = struct_rules_by (is_tag tag state) (gathered [] members (enter_struct tag state))

abbrev pub item_rules : ItemKind → State → List CheckKind
item_rules (k.Struct tag members) state = struct_rules tag members state
item_rules (k.Var external d init) state = []
item_rules (k.Fun d params body) state = function_kinds d params body (behind_all (function_parts d params body) state)

-- ---- the rules that a node breaks by itself

abbrev pub rules_of : Node → List CheckKind
rules_of (OfExpr x functions state) = (expr_own (out-ExprKind x.kind) functions state).broken
rules_of (OfInit x filled target state) = init_rules (out-InitKind x.kind) filled target state (behind_all (init_parts (out-InitKind x.kind) filled target) state)
rules_of (OfDecl d role state) = decl_rules role d state
rules_of (OfStmt x state) = stmt_rules (out-StmtKind x.kind) state (behind_all (stmt_parts (out-StmtKind x.kind) state) (stmt_enter (out-StmtKind x.kind) state))
rules_of (OfItem x state) = item_rules x.kind state

-- at its place
abbrev pub broken_by : Node → List Broken
broken_by node = all_at (place_of node) (rules_of node)

-- the rules that are broken in a node and all that is in it, as the walk through it has them
abbrev pub broken_in : Node → List Broken
broken_in (OfExpr x functions state) = (seen x functions state.scope).broken
broken_in (OfInit x filled target state) = (fills x filled target state).broken
broken_in (OfDecl d role state) = (declared_as role d state).broken
broken_in (OfStmt x state) = (statement x state).broken
broken_in (OfItem x state) = (item x state).broken

-- ---- what breaks a rule

-- a node of the source, at this place
pub record NodeBreaks (tree : Tree) (place : Place) (kind : CheckKind) : Type 0 where
  pub node : Node
  pub in_tree : IsInTree tree node
  pub at : place_of node ≡ place
  pub breaks : Contains (rules_of node) kind

-- the source as a whole, which is told at its first item
pub record SourceBreaks (tree : Tree) (room : ℕ) (place : Place) (kind : CheckKind) : Type 0 where
  pub first : Item
  pub more : List Item
  pub items : tree.items ≡ first ∷ more
  pub at : first.place ≡ place
  pub breaks : Contains (breaks TooLarge (is_too_large tree room) ++ breaks LargeData (is_data_large (after tree))) kind

-- no node of the source breaks a rule, and neither does the source as a whole
pub record BreaksNoRule (tree : Tree) (room : ℕ) : Type 0 where
  pub nodes : (node : Node) → IsInTree tree node → rules_of node ≡ []
  pub whole : at_first tree.items (breaks TooLarge (is_too_large tree room) ++ breaks LargeData (is_data_large (after tree))) ≡ []

abbrev pub NoneBreaks : List Node → Type 0
NoneBreaks nodes = (node : Node) → Contains nodes node → rules_of node ≡ []

-- of these nodes the first that breaks a rule breaks this one first
pub record FirstBreaks (nodes : List Node) (first : Broken) : Type 0 where
  pub before : List Node
  pub node : Node
  pub behind : List Node
  pub are : nodes ≡ before ++ node ∷ behind
  pub fine : NoneBreaks before
  pub at : place_of node ≡ first.place
  pub more : List CheckKind
  pub breaks : rules_of node ≡ first.kind ∷ more

-- ---- all nodes of a source in tree order: each once, with all rules that are broken

pub record InTreeOrder (tree : Tree) (nodes : List Node) : Type 0 where
  pub listed : Listed (item_nodes tree) nodes
  pub are_in : (node : Node) → Contains nodes node ↔ IsInTree tree node
  pub count : length nodes ≡ tree_nodes tree
  pub broken : (room : ℕ) → broken tree room ≡ at_first tree.items (breaks TooLarge (is_too_large tree room))
      ++ (flat_map broken_by nodes ++ at_first tree.items (breaks LargeData (is_data_large (after tree))))
