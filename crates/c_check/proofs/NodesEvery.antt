-- Every node has a list of all that is in it.
use Rattle.std.proofs.Common.{◌≡◌, sym, ◌∙◌, subst, ℕ, ◌+◌, Bool, false, List, [], ◌∷◌, ◌++◌, map, rules}
use Rattle.std.specs.Prelude.{Option, None, Some}
use Rattle.c_tree.specs.declared.tree.Tree.{Tree}
use Rattle.c_tree.specs.declared.tree.ItemKind.{ItemKind}
use Rattle.c_tree.specs.declared.tree.ItemKind.TheVariants as k
use Rattle.c_tree.specs.declared.tree.Decl.{Decl}
use Rattle.c_tree.specs.declared.tree.Expr.{Expr, Expr-F, ind-Expr, the_lemmas}
use Rattle.c_tree.specs.declared.tree.ExprKind.{ExprKind, ExprKind-F, roll-ExprKind, map-ExprKind, out-ExprKind}
use Rattle.c_tree.specs.declared.tree.ExprKind.TheOpen as e
use Rattle.c_tree.specs.declared.tree.Init.{Init, Init-F, ind-Init, the_lemmas as init_lemmas}
use Rattle.c_tree.specs.declared.tree.InitKind.{InitKind, InitKind-F, roll-InitKind, map-InitKind, out-InitKind}
use Rattle.c_tree.specs.declared.tree.InitKind.TheOpen as n
use Rattle.c_tree.specs.declared.tree.Stmt.{Stmt, Stmt-F, ind-Stmt, the_lemmas as stmt_lemmas}
use Rattle.c_tree.specs.declared.tree.StmtKind.{StmtKind, StmtKind-F, roll-StmtKind, map-StmtKind, out-StmtKind}
use Rattle.c_tree.specs.declared.tree.StmtKind.TheOpen as s
use Rattle.c_types.specs.Types.{CType}
use Rattle.c_check_rules.specs.declared.names.Member.{Member}
use Rattle.c_check_rules.specs.Names.{found_in}
use Rattle.c_check_typing.specs.Rules as rule
use Rattle.c_check_statements.specs.declared.initialisers.Filled.{Filled}
use Rattle.c_check_statements.specs.declared.initialisers.Filled.TheVariants as f
use Rattle.c_check_statements.specs.declared.state.State.{State}
use Rattle.c_check_statements.specs.Declarations.{local_declared, global_declared}
use Rattle.c_check_statements.specs.Initialisers.{part, part_of}
use Rattle.c_check_statements.specs.Statements.{enter_loop}
use Rattle.c_check_statements.specs.Structs.{with_member, member_declared}
use Rattle.c_check_statements.specs.Sources.{is_definition, at_start}
use Rattle.c_check.specs.Nodes.{Role, AsMember, AsParameter, AsLocal, AsGlobal, Node, OfExpr, OfDecl, OfStmt, Stands, in_turn, any, expression, initialiser, declaration, inner_statement, loop_body, whole_item, operand, expr_parts, argument_nodes, parts_at, init_parts, stmt_parts, stmt_enter, member_nodes, enter_struct, global_parts, function_parts, item_parts, item_nodes, parts_of, Listed, none, next}

-- nodes with their lists
abbrev pub Has : List Node → Type 0
Has nodes = (all : List Node) × Listed nodes all

pub has_none : Has []
has_none = ([], none)

pub has_next : (node : Node) (more : List Node) → Has (parts_of node) → Has more → Has (node ∷ more)
has_next node more h k = (h.0 ++ node ∷ k.0, next h.1 k.1)

abbrev ExprHas : Expr → Type 0
ExprHas x = (state : State) → Has (parts_of (OfExpr x false state))

abbrev KindHas : ExprKind → Type 0
KindHas k = (state : State) → Has (expr_parts (out-ExprKind k) state)

out_roll : (x : ExprKind-F ExprKind Expr) → out-ExprKind (roll-ExprKind x) ≡ x
out_roll x = search (rules, the_lemmas)

abbrev HeldKind : Type 0
HeldKind = (k : ExprKind) × KindHas k

abbrev HeldExpr : Type 0
HeldExpr = (x : Expr) × ExprHas x

abbrev bare : ExprKind-F HeldKind HeldExpr → ExprKind-F ExprKind Expr
bare = map-ExprKind HeldKind HeldExpr ExprKind Expr (λ y. y.0) (λ y. y.0)

has_arguments : (state : State) (all : List HeldExpr) (params : List CType) → Has (argument_nodes params (map (λ y. y.0) all) state)
has_arguments state [] params = has_none
has_arguments state (x ∷ more) params = has_next (OfExpr x.0 (rule.takes_function params) state) (argument_nodes (rule.params_after params) (map (λ y. y.0) more) state)
    (x.1 state) (has_arguments state more (rule.params_after params))

module _ (state : State) where
  has_one : (a : HeldExpr) → Has (operand state a.0 ∷ [])
  has_one a = has_next (operand state a.0) [] (a.1 state) has_none

  has_two : (a b : HeldExpr) → Has (operand state a.0 ∷ operand state b.0 ∷ [])
  has_two a b = has_next (operand state a.0) (operand state b.0 ∷ []) (a.1 state) (has_one b)

  has_three : (c a b : HeldExpr) → Has (operand state c.0 ∷ operand state a.0 ∷ operand state b.0 ∷ [])
  has_three c a b = has_next (operand state c.0) (operand state a.0 ∷ operand state b.0 ∷ []) (c.1 state) (has_two a b)

  has_form : (y : ExprKind-F HeldKind HeldExpr) → Has (expr_parts (bare y) state)
  has_form (e.Number n kind) = has_none
  has_form (e.Text bytes) = has_none
  has_form (e.Var name) = has_none
  has_form (e.Unary op a) = has_one a
  has_form (e.Binary op a b) = has_two a b
  has_form (e.Assign op a b) = has_two a b
  has_form (e.StepBy up before a) = has_one a
  has_form (e.Cond c a b) = has_three c a b
  has_form (e.Call name all) = has_arguments state all (rule.params_of (found_in state.scope name))
  has_form (e.Index a b) = has_two a b
  has_form (e.Member a name) = has_one a
  has_form (e.Arrow a name) = has_one a
  has_form (e.Cast base stars a) = has_one a
  has_form (e.SizeOfKind base stars) = has_none
  has_form (e.SizeOfValue a) = has_one a

kind_of_form : (x : ExprKind-F ExprKind Expr) (y : ExprKind-F HeldKind HeldExpr) → bare y ≡ x → KindHas (roll-ExprKind x)
kind_of_form x y is state = subst (λ (k : ExprKind-F ExprKind Expr). Has (expr_parts k state)) (is ∙ sym (out_roll x)) (has_form state y)

pub expr_has : (x : Expr) (functions : Bool) (state : State) → Has (parts_of (OfExpr x functions state))
expr_has x functions state = ind-Expr KindHas ExprHas kind_of_form (λ x y is. subst (λ (z : Expr-F ExprKind Expr). KindHas z.kind) is y.kind.1) x state

-- ---- what stands one after another

abbrev Good : Stands → Type 0
Good stands = (state : State) → Has (parts_of (stands state).node)

abbrev AllGood : List Stands → Type 0
AllGood [] = Unit {0}
AllGood (x ∷ more) = Good x × AllGood more

good_turns : (all : List Stands) → AllGood all → (state : State) → Has (in_turn all state)
good_turns [] h state = has_none
good_turns (x ∷ more) h state = has_next (x state).node (in_turn more (x state).behind) (h.0 state) (good_turns more h.1 (x state).behind)

good_joined : (xs ys : List Stands) → AllGood xs → AllGood ys → AllGood (xs ++ ys)
good_joined [] ys h k = k
good_joined (x ∷ xs) ys h k = (h.0, good_joined xs ys h.1 k)

good_any : {A : Type 0} (stands : A → Stands) → ((x : A) → Good (stands x)) → (x : Option A) → AllGood (any stands x)
good_any stands h None = tt
good_any stands h (Some x) = (h x, tt)

good_map : {A : Type 0} (stands : A → Stands) → ((x : A) → Good (stands x)) → (all : List A) → AllGood (map stands all)
good_map stands h [] = tt
good_map stands h (x ∷ more) = (h x, good_map stands h more)

good_expression : (x : Expr) → Good (expression x)
good_expression x state = expr_has x false state

-- ---- initialisers

abbrev InitHas : Init → Type 0
InitHas x = (filled : Filled) (target : Option CType) → Good (initialiser filled target x)

abbrev FillingHas : InitKind → Type 0
FillingHas k = (filled : Filled) (target : Option CType) (state : State) → Has (in_turn (init_parts (out-InitKind k) filled target) state)

out_roll_init : (x : InitKind-F InitKind Init) → out-InitKind (roll-InitKind x) ≡ x
out_roll_init x = search (rules, init_lemmas)

abbrev HeldFilling : Type 0
HeldFilling = (k : InitKind) × FillingHas k

abbrev HeldInit : Type 0
HeldInit = (x : Init) × InitHas x

abbrev bare_init : InitKind-F HeldFilling HeldInit → InitKind-F InitKind Init
bare_init = map-InitKind HeldFilling HeldInit InitKind Init (λ y. y.0) (λ y. y.0)

good_parts : (filled : Filled) (target : Option CType) (all : List HeldInit) (at : ℕ) → AllGood (parts_at filled target at (map (λ y. y.0) all))
good_parts filled target [] at = tt
good_parts filled target (x ∷ more) at = (λ state. x.1 (part filled) (part_of state.scope.structs target at) state, good_parts filled target more (at + 1))

good_filling : (filled : Filled) (target : Option CType) (y : InitKind-F HeldFilling HeldInit) → AllGood (init_parts (bare_init y) filled target)
good_filling filled target (n.One x) = (good_expression x, tt)
good_filling filled target (n.Many all) = good_parts filled target all 0

filling_of_form : (x : InitKind-F InitKind Init) (y : InitKind-F HeldFilling HeldInit) → bare_init y ≡ x → FillingHas (roll-InitKind x)
filling_of_form x y is filled target state = subst (λ (k : InitKind-F InitKind Init). Has (in_turn (init_parts k filled target) state)) (is ∙ sym (out_roll_init x))
    (good_turns (init_parts (bare_init y) filled target) (good_filling filled target y) state)

init_has : (x : Init) → InitHas x
init_has x = ind-Init FillingHas InitHas filling_of_form (λ x y is. subst (λ (z : Init-F InitKind Init). FillingHas z.kind) is y.kind.1) x

-- ---- declarations

has_counts : (state : State) (all : List Expr) → Has (map (operand state) all)
has_counts state [] = has_none
has_counts state (x ∷ more) = has_next (operand state x) (map (operand state) more) (expr_has x false state) (has_counts state more)

good_declaration : (role : Role) (d : Decl) → Good (declaration role d)
good_declaration role d state = has_counts state d.counts

-- ---- statements

abbrev StmtHas : Stmt → Type 0
StmtHas x = (state : State) → Has (parts_of (OfStmt x state))

abbrev FormHas : StmtKind → Type 0
FormHas k = (state : State) → Has (in_turn (stmt_parts (out-StmtKind k) state) (stmt_enter (out-StmtKind k) state))

out_roll_stmt : (x : StmtKind-F StmtKind Stmt) → out-StmtKind (roll-StmtKind x) ≡ x
out_roll_stmt x = search (rules, stmt_lemmas)

abbrev HeldForm : Type 0
HeldForm = (k : StmtKind) × FormHas k

abbrev HeldStmt : Type 0
HeldStmt = (x : Stmt) × StmtHas x

abbrev bare_stmt : StmtKind-F HeldForm HeldStmt → StmtKind-F StmtKind Stmt
bare_stmt = map-StmtKind HeldForm HeldStmt StmtKind Stmt (λ y. y.0) (λ y. y.0)

good_statement : (x : HeldStmt) → Good (inner_statement x.0)
good_statement x state = x.1 state

good_body : (x : HeldStmt) → Good (loop_body x.0)
good_body x state = x.1 (enter_loop state)

good_statements : (all : List HeldStmt) → AllGood (map inner_statement (map (λ y. y.0) all))
good_statements [] = tt
good_statements (x ∷ more) = (good_statement x, good_statements more)

good_form : (state : State) (y : StmtKind-F HeldForm HeldStmt) → AllGood (stmt_parts (bare_stmt y) state)
good_form state (s.Value value) = good_any expression good_expression value
good_form state (s.Local d init) = (good_declaration AsLocal d, good_any (initialiser f.Local (local_declared d state).kind) (λ x. init_has x f.Local (local_declared d state).kind) init)
good_form state (s.If test a None) = (good_expression test, (good_statement a, tt))
good_form state (s.If test a (Some b)) = (good_expression test, (good_statement a, (good_statement b, tt)))
good_form state (s.While test body) = (good_expression test, (good_body body, tt))
good_form state (s.DoWhile body test) = (good_body body, (good_expression test, tt))
good_form state (s.For first test step body) = good_joined (any expression first) (any expression test ++ (any expression step ++ loop_body body.0 ∷ [])) (good_any expression good_expression first)
    (good_joined (any expression test) (any expression step ++ loop_body body.0 ∷ []) (good_any expression good_expression test)
    (good_joined (any expression step) (loop_body body.0 ∷ []) (good_any expression good_expression step) (good_body body, tt)))
good_form state s.Break = tt
good_form state s.Continue = tt
good_form state (s.Return value) = good_any expression good_expression value
good_form state (s.Block all) = good_statements all

form_of_form : (x : StmtKind-F StmtKind Stmt) (y : StmtKind-F HeldForm HeldStmt) → bare_stmt y ≡ x → FormHas (roll-StmtKind x)
form_of_form x y is state = subst (λ (k : StmtKind-F StmtKind Stmt). Has (in_turn (stmt_parts k state) (stmt_enter k state))) (is ∙ sym (out_roll_stmt x))
    (good_turns (stmt_parts (bare_stmt y) state) (good_form state y) (stmt_enter (bare_stmt y) state))

stmt_has : (x : Stmt) → Good (inner_statement x)
stmt_has x = ind-Stmt FormHas StmtHas form_of_form (λ x y is. subst (λ (z : Stmt-F StmtKind Stmt). FormHas z.kind) is y.kind.1) x

-- ---- items

has_members : (members : List Decl) (before : List Member) (state : State) → Has (member_nodes before members state)
has_members [] before state = has_none
has_members (d ∷ more) before state = has_next (OfDecl d (AsMember before) state)
    (member_nodes (with_member d.name (member_declared before d state).kind before) more (member_declared before d state).state)
    (has_counts state d.counts) (has_members more (with_member d.name (member_declared before d state).kind before) (member_declared before d state).state)

has_item : (kind : ItemKind) (state : State) → Has (item_parts kind state)
has_item (k.Struct tag members) state = has_members members [] (enter_struct tag state)
has_item (k.Var external d init) state = good_turns (global_parts external d init state) (
  good_declaration (AsGlobal (is_definition external init)) d,
  good_any (initialiser f.Global (global_declared (is_definition external init) d state).kind)
      (λ x. init_has x f.Global (global_declared (is_definition external init) d state).kind) init,
) state
has_item (k.Fun d params body) state = good_turns (function_parts d params body) (
  λ before. has_counts before d.counts,
  good_joined (map (declaration AsParameter) params) (any inner_statement body) (good_map (declaration AsParameter) (good_declaration AsParameter) params)
      (good_any inner_statement stmt_has body),
) state

pub tree_has : (tree : Tree) → Has (item_nodes tree)
tree_has tree = good_turns (map whole_item tree.items) (good_map whole_item (λ x state. has_item x.kind state) tree.items) at_start
