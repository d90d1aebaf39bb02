-- A list of nodes with all that is in them has as many as there are: no part is left out, and none stands twice.
use Rattle.std.proofs.Common.{◌≡◌, ap, sym, ◌∙◌, refl, ℕ, ◌+◌, List, [], ◌∷◌, ◌++◌, length, map, length-append, arith, rules}
use Rattle.std.specs.Prelude.{Option, None, Some}
use Rattle.c_tree.specs.Count.{total, expr_step, expr_nodes, maybe_expr, decl_nodes, init_step, init_nodes, maybe_init, stmt_step, stmt_nodes, maybe_stmt, kind_nodes, item_nodes as item_count, tree_nodes}
use Rattle.c_tree.specs.declared.tree.Tree.{Tree}
use Rattle.c_tree.specs.declared.tree.ItemKind.{ItemKind}
use Rattle.c_tree.specs.declared.tree.ItemKind.TheVariants as k
use Rattle.c_tree.specs.declared.tree.Decl.{Decl}
use Rattle.c_tree.specs.declared.tree.Item.{Item}
use Rattle.c_tree.specs.declared.tree.Expr.{Expr, the_lemmas}
use Rattle.c_tree.specs.declared.tree.ExprKind.{ExprKind, ExprKind-F, fold-ExprKind, fold_out-ExprKind, map-ExprKind, out-ExprKind}
use Rattle.c_tree.specs.declared.tree.ExprKind.TheOpen as e
use Rattle.c_tree.specs.declared.tree.Init.{Init, the_lemmas as init_lemmas}
use Rattle.c_tree.specs.declared.tree.InitKind.{InitKind, InitKind-F, fold-InitKind, fold_out-InitKind, map-InitKind, out-InitKind}
use Rattle.c_tree.specs.declared.tree.InitKind.TheOpen as n
use Rattle.c_tree.specs.declared.tree.Stmt.{Stmt, the_lemmas as stmt_lemmas}
use Rattle.c_tree.specs.declared.tree.StmtKind.{StmtKind, StmtKind-F, fold-StmtKind, fold_out-StmtKind, map-StmtKind, out-StmtKind}
use Rattle.c_tree.specs.declared.tree.StmtKind.TheOpen as s
use Rattle.c_types.specs.Types.{CType}
use Rattle.c_check_rules.specs.declared.names.Member.{Member}
use Rattle.c_check_rules.specs.Names.{found_in}
use Rattle.c_check_typing.specs.Rules.{params_of, params_after}
use Rattle.c_check_statements.specs.declared.initialisers.Filled.{Filled}
use Rattle.c_check_statements.specs.declared.initialisers.Filled.TheVariants as f
use Rattle.c_check_statements.specs.declared.state.State.{State}
use Rattle.c_check_statements.specs.Declarations.{local_declared, global_declared}
use Rattle.c_check_statements.specs.Structs.{with_member, member_declared}
use Rattle.c_check_statements.specs.Sources.{is_definition, at_start}
use Rattle.c_check.specs.Nodes.{Node, OfExpr, OfInit, OfDecl, OfStmt, OfItem, AsParameter, Stands, in_turn, behind_all, any, expression, initialiser, declaration, inner_statement, loop_body, whole_item, operand, argument_nodes, expr_parts, parts_at, init_parts, stmt_parts, stmt_enter, member_nodes, enter_struct, function_name, function_parts, item_parts, parts_of, item_nodes, Listed, none, next}
use Rattle.c_check.proofs.NodesWalks.{turns_joined}

-- how many nodes a node and all that is in it are
abbrev size_of : Node → ℕ
size_of (OfExpr x functions state) = expr_nodes x
size_of (OfInit x filled target state) = init_nodes x
size_of (OfDecl d role state) = decl_nodes d
size_of (OfStmt x state) = stmt_nodes x
size_of (OfItem x state) = item_count x

abbrev sizes : List Node → ℕ
sizes [] = 0
sizes (x ∷ more) = size_of x + sizes more

sizes_joined : (xs ys : List Node) → sizes (xs ++ ys) ≡ sizes xs + sizes ys
sizes_joined [] ys = omega arith
sizes_joined (x ∷ xs) ys = omega (arith, sizes_joined xs ys)

-- ---- what stands one after another

abbrev Weighs : List Stands → ℕ → Type 0
Weighs all n = (state : State) → sizes (in_turn all state) ≡ n

weigh_none : Weighs [] 0
weigh_none state = refl

weigh_next : (x : Stands) (more : List Stands) (n m : ℕ) → ((state : State) → size_of (x state).node ≡ n) → Weighs more m → Weighs (x ∷ more) (n + m)
weigh_next x more n m h k state = λ i. h state i + k (x state).behind i

weigh_joined : (xs ys : List Stands) (n m : ℕ) → Weighs xs n → Weighs ys m → Weighs (xs ++ ys) (n + m)
weigh_joined xs ys n m h k state = ap sizes (turns_joined xs ys state) ∙ (sizes_joined (in_turn xs state) (in_turn ys (behind_all xs state)) ∙ (λ i. h state i + k (behind_all xs state) i))

weigh_all : {A : Type 0} (stands : A → Stands) (count : A → ℕ) → ((x : A) (state : State) → size_of (stands x state).node ≡ count x) → (all : List A) → Weighs (map stands all) (total (map count all))
weigh_all stands count h [] = weigh_none
weigh_all stands count h (x ∷ more) = weigh_next (stands x) (map stands more) (count x) (total (map count more)) (h x) (weigh_all stands count h more)

weigh_expression : (x : Option Expr) → Weighs (any expression x) (maybe_expr x)
weigh_expression None state = refl
weigh_expression (Some x) state = omega arith

weigh_initialiser : (filled : Filled) (target : Option CType) (x : Option Init) → Weighs (any (initialiser filled target) x) (maybe_init x)
weigh_initialiser filled target None state = refl
weigh_initialiser filled target (Some x) state = omega arith

weigh_statement : (x : Option Stmt) → Weighs (any inner_statement x) (maybe_stmt x)
weigh_statement None state = refl
weigh_statement (Some x) state = omega arith

-- ---- expressions

abbrev expr_layer : ExprKind-F ExprKind Expr → ExprKind-F ℕ ℕ
expr_layer = map-ExprKind ExprKind Expr ℕ ℕ (fold-ExprKind ℕ ℕ expr_step (λ x. x.kind)) expr_nodes

expr_opened : (x : Expr) → expr_nodes x ≡ fold-ExprKind ℕ ℕ expr_step (λ y. y.kind) x.kind
expr_opened x = search (rules, the_lemmas)

arguments_size : (state : State) (all : List Expr) (params : List CType) → total (map expr_nodes all) ≡ sizes (argument_nodes params all state)
arguments_size state [] params = refl
arguments_size state (x ∷ more) params = ap (λ (n : ℕ). expr_nodes x + n) (arguments_size state more (params_after params))

expr_form : (state : State) (x : ExprKind-F ExprKind Expr) → expr_step (expr_layer x) ≡ sizes (expr_parts x state) + 1
expr_form state (e.Number n kind) = refl
expr_form state (e.Text bytes) = refl
expr_form state (e.Var name) = refl
expr_form state (e.Unary op a) = omega arith
expr_form state (e.Binary op a b) = omega arith
expr_form state (e.Assign op a b) = omega arith
expr_form state (e.StepBy up before a) = omega arith
expr_form state (e.Cond c a b) = omega arith
expr_form state (e.Call name all) = ap (λ (n : ℕ). n + 1) (arguments_size state all (params_of (found_in state.scope name)))
expr_form state (e.Index a b) = omega arith
expr_form state (e.Member a name) = omega arith
expr_form state (e.Arrow a name) = omega arith
expr_form state (e.Cast base stars a) = omega arith
expr_form state (e.SizeOfKind base stars) = refl
expr_form state (e.SizeOfValue a) = omega arith

-- ---- initialisers

abbrev init_layer : InitKind-F InitKind Init → InitKind-F ℕ ℕ
init_layer = map-InitKind InitKind Init ℕ ℕ (fold-InitKind ℕ ℕ init_step (λ x. x.kind)) init_nodes

init_opened : (x : Init) → init_nodes x ≡ fold-InitKind ℕ ℕ init_step (λ y. y.kind) x.kind
init_opened x = search (rules, init_lemmas)

weigh_parts : (filled : Filled) (target : Option CType) (all : List Init) (at : ℕ) → Weighs (parts_at filled target at all) (total (map init_nodes all))
weigh_parts filled target [] at state = refl
weigh_parts filled target (x ∷ more) at state = ap (λ (n : ℕ). init_nodes x + n) (weigh_parts filled target more (at + 1) _)

init_form : (filled : Filled) (target : Option CType) (state : State) (x : InitKind-F InitKind Init) → init_step (init_layer x) ≡ sizes (in_turn (init_parts x filled target) state) + 1
init_form filled target state (n.One x) = omega arith
init_form filled target state (n.Many all) = ap (λ (n : ℕ). n + 1) (sym (weigh_parts filled target all 0 state))

-- ---- declarations

counts_size : (state : State) (all : List Expr) → total (map expr_nodes all) ≡ sizes (map (operand state) all)
counts_size state [] = refl
counts_size state (x ∷ more) = ap (λ (n : ℕ). expr_nodes x + n) (counts_size state more)

-- ---- statements

abbrev stmt_layer : StmtKind-F StmtKind Stmt → StmtKind-F ℕ ℕ
stmt_layer = map-StmtKind StmtKind Stmt ℕ ℕ (fold-StmtKind ℕ ℕ stmt_step (λ x. x.kind)) stmt_nodes

stmt_opened : (x : Stmt) → stmt_nodes x ≡ fold-StmtKind ℕ ℕ stmt_step (λ y. y.kind) x.kind
stmt_opened x = search (rules, stmt_lemmas)

weigh_for : (first test step : Option Expr) (body : Stmt)
    → Weighs (any expression first ++ (any expression test ++ (any expression step ++ loop_body body ∷ []))) (maybe_expr first + (maybe_expr test + (maybe_expr step + (stmt_nodes body + 0))))
weigh_for first test step body = weigh_joined (any expression first) (any expression test ++ (any expression step ++ loop_body body ∷ [])) (maybe_expr first) (maybe_expr test + (maybe_expr step + (stmt_nodes body + 0))) (weigh_expression first)
    (weigh_joined (any expression test) (any expression step ++ loop_body body ∷ []) (maybe_expr test) (maybe_expr step + (stmt_nodes body + 0)) (weigh_expression test)
    (weigh_joined (any expression step) (loop_body body ∷ []) (maybe_expr step) (stmt_nodes body + 0) (weigh_expression step) (λ state. refl)))

stmt_form : (state after : State) (x : StmtKind-F StmtKind Stmt) → stmt_step (stmt_layer x) ≡ sizes (in_turn (stmt_parts x state) after) + 1
stmt_form state after (s.Value value) = omega (arith, weigh_expression value after)
stmt_form state after (s.Local d init) = omega (arith, weigh_initialiser f.Local (local_declared d state).kind init (local_declared d after).state)
stmt_form state after (s.If test a None) = omega arith
stmt_form state after (s.If test a (Some b)) = omega arith
stmt_form state after (s.While test body) = omega arith
stmt_form state after (s.DoWhile body test) = omega arith
stmt_form state after (s.For first test step body) = omega (arith, weigh_for first test step body after)
stmt_form state after s.Break = refl
stmt_form state after s.Continue = refl
stmt_form state after (s.Return value) = omega (arith, weigh_expression value after)
stmt_form state after (s.Block all) = omega (arith, weigh_all inner_statement stmt_nodes (λ x before. refl) all after)

-- ---- items

members_size : (members : List Decl) (before : List Member) (state : State) → total (map decl_nodes members) ≡ sizes (member_nodes before members state)
members_size [] before state = refl
members_size (d ∷ more) before state = ap (λ (n : ℕ). decl_nodes d + n) (members_size more (with_member d.name (member_declared before d state).kind before) (member_declared before d state).state)

weigh_function : (d : Decl) (params : List Decl) (body : Option Stmt) → Weighs (function_parts d params body) (decl_nodes d + (total (map decl_nodes params) + maybe_stmt body))
weigh_function d params body = weigh_next (function_name d params body) (map (declaration AsParameter) params ++ any inner_statement body) (decl_nodes d) (total (map decl_nodes params) + maybe_stmt body) (λ state. refl)
    (weigh_joined (map (declaration AsParameter) params) (any inner_statement body) (total (map decl_nodes params)) (maybe_stmt body)
    (weigh_all (declaration AsParameter) decl_nodes (λ x state. refl) params) (weigh_statement body))

item_form : (state : State) (x : ItemKind) → kind_nodes x ≡ sizes (item_parts x state) + 1
item_form state (k.Struct tag members) = ap (λ (n : ℕ). n + 1) (members_size members [] (enter_struct tag state))
item_form state (k.Var external d init) = omega (arith, weigh_initialiser f.Global (global_declared (is_definition external init) d state).kind init (global_declared (is_definition external init) d state).state)
item_form state (k.Fun d params body) = omega (arith, weigh_function d params body state)

-- ---- all nodes

parts_size : (node : Node) → size_of node ≡ sizes (parts_of node) + 1
parts_size (OfExpr x functions state) = expr_opened x ∙ (fold_out-ExprKind ℕ ℕ expr_step (λ y. y.kind) x.kind ∙ expr_form state (out-ExprKind x.kind))
parts_size (OfInit x filled target state) = init_opened x ∙ (fold_out-InitKind ℕ ℕ init_step (λ y. y.kind) x.kind ∙ init_form filled target state (out-InitKind x.kind))
parts_size (OfDecl d role state) = ap (λ (n : ℕ). n + 1) (counts_size state d.counts)
parts_size (OfStmt x state) = stmt_opened x ∙ (fold_out-StmtKind ℕ ℕ stmt_step (λ y. y.kind) x.kind ∙ stmt_form state (stmt_enter (out-StmtKind x.kind) state) (out-StmtKind x.kind))
parts_size (OfItem x state) = item_form state x.kind

listed_size : {nodes all : List Node} → Listed nodes all → length all ≡ sizes nodes
listed_size none = refl
listed_size (next {node = node} {more = more} {inner = inner} {others = others} l m) = omega (arith, length-append inner (node ∷ others), listed_size l, listed_size m, parts_size node)

items_size : (all : List Item) → Weighs (map whole_item all) (total (map item_count all))
items_size all = weigh_all whole_item item_count (λ x state. refl) all

pub listed_count : (tree : Tree) (nodes : List Node) → Listed (item_nodes tree) nodes → length nodes ≡ tree_nodes tree
listed_count tree nodes h = listed_size h ∙ items_size tree.items at_start
