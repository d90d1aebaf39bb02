-- A node breaks what its parts break, from left to right, and then its own rules.
use Rattle.std.proofs.Common.{◌≡◌, ap, sym, ◌∙◌, refl, ℕ, ◌+◌, Bool, true, false, List, [], ◌∷◌, ◌++◌, length, map, append_assoc, append-nil, rules}
use Rattle.std.proofs.lemmas.List.{length-map}
use Rattle.std.specs.Prelude.{flat_map, Option, None, Some, if◌then◌else◌, is_some}
use Rattle.mx_base.specs.declared.places.Place.{Place}
use Rattle.c_tree.specs.declared.tree.Tree.{Tree}
use Rattle.c_tree.specs.declared.tree.Item.{Item}
use Rattle.c_tree.specs.declared.tree.ItemKind.{ItemKind}
use Rattle.c_tree.specs.declared.tree.ItemKind.TheVariants as k
use Rattle.c_tree.specs.declared.tree.Decl.{Decl}
use Rattle.c_tree.specs.declared.tree.Expr.{Expr}
use Rattle.c_tree.specs.declared.tree.Init.{Init, the_lemmas as init_lemmas}
use Rattle.c_tree.specs.declared.tree.InitKind.{InitKind, InitKind-F, fold-InitKind, fold_out-InitKind, map-InitKind, out-InitKind}
use Rattle.c_tree.specs.declared.tree.InitKind.TheOpen as n
use Rattle.c_tree.specs.declared.tree.Stmt.{Stmt, the_lemmas as stmt_lemmas}
use Rattle.c_tree.specs.declared.tree.StmtKind.{StmtKind, StmtKind-F, fold-StmtKind, fold_out-StmtKind, map-StmtKind, out-StmtKind}
use Rattle.c_tree.specs.declared.tree.StmtKind.TheOpen as s
use Rattle.c_types.specs.Types.{CType}
use Rattle.c_check_rules.specs.declared.names.Member.{Member}
use Rattle.c_check_rules.specs.Names.{tag_at}
use Rattle.c_check_typing.specs.declared.fault.CheckKind.{CheckKind}
use Rattle.c_check_typing.specs.declared.fault.Broken.{Broken}
use Rattle.c_check_typing.specs.Refusals.{all_at}
use Rattle.c_check_typing.specs.Notes.{Seen, unevaluated}
use Rattle.c_check_statements.specs.declared.counts.Counts.{Counts}
use Rattle.c_check_statements.specs.declared.initialisers.Filled.{Filled}
use Rattle.c_check_statements.specs.declared.initialisers.Filled.TheVariants as f
use Rattle.c_check_statements.specs.declared.state.State.{State}
use Rattle.c_check_statements.specs.Walks.{Walk, ◌then◌, maybe_reads, past, walk_all, at_node, inside, seen_in}
use Rattle.c_check_statements.specs.Counts.{counted, no_counts}
use Rattle.c_check_statements.specs.Declarations.{declares, and_then, counts_of, local_declared, global_declared, function_declared}
use Rattle.c_check_statements.specs.Initialisers.{Filling, fills, init_step, maybe_fills, filling, fills_target, one, parts, part, part_of, many_judged, many_kinds, one_kinds, notes_word}
use Rattle.c_check_statements.specs.Statements.{statement, stmt_step, maybe_statement, test_kinds, seen_test, return_kinds, return_judged, local_kinds, local_judged, local, looped, tested, for_rest, block_by, enter_body, enter_block}
use Rattle.c_check_statements.specs.Structs.{gathered, struct_by, with_struct, with_member, member_declared}
use Rattle.c_check_statements.specs.Functions.{parameter, ends_function, function_kinds, function_inner, enter_function}
use Rattle.c_check_statements.specs.Sources.{item, items, item_kind, is_definition, at_start}
use Rattle.c_check.specs.Nodes.{Role, AsMember, AsParameter, AsLocal, AsGlobal, AsFunction, Node, OfExpr, OfInit, OfDecl, OfStmt, OfItem, Stands, behind_all, any, expression, initialiser, declaration, inner_statement, loop_body, whole_item, operand, part_at, parts_at, init_parts, stmt_parts, stmt_enter, member_nodes, item_parts, item_nodes, parts_of, declared_as}
use Rattle.c_check.specs.NodeRules.{init_rules, decl_rules, stmt_rules, struct_rules_by, item_rules, broken_in, broken_by}
use Rattle.c_check.proofs.NodesExprs.{expr_broken}
use Rattle.c_check.proofs.NodesWalks.{all_broken, Goes, Ends, goes_nowhere, goes_once, goes_on, ends_on, ends_here, goes_all, goes_expression, goes_any_expression}

no_own : (xs : List Broken) → xs ≡ xs ++ []
no_own xs = sym (append-nil xs)

-- ---- initialisers

abbrev filling_layer : InitKind-F InitKind Init → InitKind-F (Place → Filling) Filling
filling_layer = map-InitKind InitKind Init (Place → Filling) Filling (fold-InitKind (Place → Filling) Filling init_step (λ x. x.kind x.place)) fills

opened_init : (x : Init) → fills x ≡ fold-InitKind (Place → Filling) Filling init_step (λ y. y.kind y.place) x.kind x.place
opened_init x = search (rules, init_lemmas)

fills_by_form : (x : Init) → fills x ≡ init_step (filling_layer (out-InitKind x.kind)) x.place
fills_by_form x = opened_init x ∙ ap (λ (r : Place → Filling). r x.place) (fold_out-InitKind (Place → Filling) Filling init_step (λ y. y.kind y.place) x.kind)

filling_broken : (b : Bool) (x : Seen) → (filling b x).broken ≡ x.broken
unfolding unevaluated
filling_broken true x = refl
filling_broken false x = refl

one_broken : (filled : Filled) (target : Option CType) (place : Place) (x : Expr) (state : State)
    → (one filled target place x state).broken ≡ (broken_in (OfExpr x false state) ++ []) ++ all_at place (one_kinds filled target (seen_in state x).typed)
unfolding ◌then◌ at_node past notes_word
one_broken filled target place x state =
    let own = all_at place (one_kinds filled target (seen_in state x).typed) in
    ap (λ (l : List Broken). l ++ (own ++ [])) (filling_broken (fills_target target (seen_in state x).typed) (seen_in state x))
    ∙ (ap (λ (l : List Broken). (seen_in state x).broken ++ l) (append-nil own) ∙ ap (λ (l : List Broken). l ++ own) (no_own (seen_in state x).broken))

goes_initialiser : (filled : Filled) (target : Option CType) (x : Init) → Goes (fills x filled target) (initialiser filled target x ∷ [])
goes_initialiser filled target x = goes_once (fills x filled target) (initialiser filled target x) (λ state. refl) (λ state. refl)

goes_any_initialiser : (filled : Filled) (target : Option CType) (x : Option Init) → Goes (maybe_fills x filled target) (any (initialiser filled target) x)
goes_any_initialiser filled target None = goes_nowhere
goes_any_initialiser filled target (Some x) = goes_initialiser filled target x

goes_parts : (filled : Filled) (target : Option CType) (all : List Init) (at : ℕ) → Goes (parts filled target at (map fills all)) (parts_at filled target at all)
goes_parts filled target [] at = goes_nowhere
goes_parts filled target (x ∷ more) at = goes_on (goes_once (λ state. fills x (part filled) (part_of state.scope.structs target at) state) (part_at filled target at x) (λ state. refl) (λ state. refl))
    (goes_parts filled target more (at + 1))

many_ends : (filled : Filled) (target : Option CType) (place : Place) (all : List Init)
    → Ends (parts filled target 0 (map fills all) then many_judged target (length all) place) (parts_at filled target 0 all) place (λ behind. many_kinds behind.scope.structs target (length all))
unfolding at_node
many_ends filled target place all = ends_here (many_judged target (length all) place) (λ state. refl) (goes_parts filled target all 0)

filling_form : (place : Place) (filled : Filled) (target : Option CType) (x : InitKind-F InitKind Init) (state : State)
    → (init_step (filling_layer x) place filled target state).broken ≡ all_broken (init_parts x filled target) state ++ all_at place (init_rules x filled target state (behind_all (init_parts x filled target) state))
filling_form place filled target (n.One x) state = one_broken filled target place x state
filling_form place filled target (n.Many all) state = ap (λ (count : ℕ). ((parts filled target 0 (map fills all) then many_judged target count place) state).broken) (length-map all fills)
    ∙ (many_ends filled target place all).broken state

init_broken : (x : Init) (filled : Filled) (target : Option CType) (state : State)
    → (fills x filled target state).broken ≡ flat_map broken_in (parts_of (OfInit x filled target state)) ++ broken_by (OfInit x filled target state)
init_broken x filled target state = ap (λ (r : Filling). (r filled target state).broken) (fills_by_form x) ∙ filling_form x.place filled target (out-InitKind x.kind) state

-- ---- declarations

counts_broken : (state : State) (all : List Expr) (counts : Option Counts) → (counted state.scope counts all).broken ≡ flat_map broken_in (map (operand state) all)
counts_broken state [] counts = refl
counts_broken state (x ∷ more) counts = ap (λ (l : List Broken). (seen_in state x).broken ++ l) (counts_broken state more _)

pub counts_first : (d : Decl) (role : Role) (state : State) → (declared_as role d state).broken ≡ (counts_of state d).broken ++ all_at d.place (decl_rules role d state)
unfolding declares
counts_first d (AsMember before) state = refl
counts_first d AsParameter state = refl
counts_first d AsLocal state = refl
counts_first d (AsGlobal defined) state = refl
counts_first d (AsFunction defined params) state = refl

decl_broken : (d : Decl) (role : Role) (state : State) → (declared_as role d state).broken ≡ flat_map broken_in (map (operand state) d.counts) ++ all_at d.place (decl_rules role d state)
decl_broken d role state = counts_first d role state ∙ ap (λ (l : List Broken). l ++ all_at d.place (decl_rules role d state)) (counts_broken state d.counts (Some no_counts))

-- ---- statements

abbrev form_layer : StmtKind-F StmtKind Stmt → StmtKind-F (Place → Walk) Walk
form_layer = map-StmtKind StmtKind Stmt (Place → Walk) Walk (fold-StmtKind (Place → Walk) Walk stmt_step (λ x. x.kind x.place)) statement

opened_stmt : (x : Stmt) → statement x ≡ fold-StmtKind (Place → Walk) Walk stmt_step (λ y. y.kind y.place) x.kind x.place
opened_stmt x = search (rules, stmt_lemmas)

statement_by_form : (x : Stmt) → statement x ≡ stmt_step (form_layer (out-StmtKind x.kind)) x.place
statement_by_form x = opened_stmt x ∙ ap (λ (r : Place → Walk). r x.place) (fold_out-StmtKind (Place → Walk) Walk stmt_step (λ y. y.kind y.place) x.kind)

goes_statement : (x : Stmt) → Goes (statement x) (inner_statement x ∷ [])
goes_statement x = goes_once (statement x) (inner_statement x) (λ state. refl) (λ state. refl)

goes_any_statement : (x : Option Stmt) → Goes (maybe_statement x) (any inner_statement x)
goes_any_statement None = goes_nowhere
goes_any_statement (Some x) = goes_statement x

goes_body : (x : Stmt) → Goes (looped (statement x)) (loop_body x ∷ [])
unfolding inside
goes_body x = goes_once (looped (statement x)) (loop_body x) (λ state. refl) (λ state. refl)

ends_with : {a : Walk} {xs : List Stands} (place : Place) (kinds : List CheckKind) → Goes a xs → Ends (a then at_node place kinds) xs place (λ behind. kinds)
unfolding at_node
ends_with place kinds h = ends_here (at_node place kinds) (λ state. refl) h

local_broken : (place : Place) (d : Decl) (init : Option Init) (state : State)
    → (local d init place state).broken ≡ all_broken (stmt_parts (s.Local d init) state) state ++ all_at place (stmt_rules (s.Local d init) state (behind_all (stmt_parts (s.Local d init) state) state))
unfolding and_then at_node
local_broken place d init state = ap (λ (l : List Broken). (local_declared d state).broken ++ l)
    ((ends_here {place = place} {kinds = λ behind. local_kinds behind.scope.structs init (local_declared d state).kind} (local_judged init (local_declared d state).kind place) (λ before. refl)
    (goes_any_initialiser f.Local (local_declared d state).kind init)).broken (local_declared d state).state)
    ∙ sym (append_assoc (local_declared d state).broken (all_broken (any (initialiser f.Local (local_declared d state).kind) init) (local_declared d state).state) _)

tested_broken : (place : Place) (body : Stmt) (test : Expr) (state : State)
    → ((looped (statement body) then tested test place) state).broken ≡ all_broken (loop_body body ∷ expression test ∷ []) state
    ++ all_at place (test_kinds (seen_in (looped (statement body) state).state test).typed)
unfolding ◌then◌ at_node past inside
tested_broken place body test state = ap (λ (l : List Broken). (looped (statement body) state).broken ++ l)
    (ap (λ (l : List Broken). l ++ all_at place (test_kinds (seen_in (looped (statement body) state).state test).typed)) (no_own (seen_in (looped (statement body) state).state test).broken))
    ∙ sym (append_assoc (looped (statement body) state).broken ((seen_in (looped (statement body) state).state test).broken ++ []) (all_at place (test_kinds (seen_in (looped (statement body) state).state test).typed)))

abbrev rest_parts : (test next : Option Expr) → Stmt → List Stands
rest_parts test next body = any expression test ++ (any expression next ++ loop_body body ∷ [])

for_ends : (place : Place) (kinds : List CheckKind) (test next : Option Expr) (body : Stmt)
    → Ends (maybe_reads test then (maybe_reads next then (looped (statement body) then at_node place kinds))) (rest_parts test next body) place (λ behind. kinds)
for_ends place kinds test next body = ends_on (goes_any_expression test) (ends_on (goes_any_expression next) (ends_with place kinds (goes_body body)))

for_broken : (place : Place) (first test next : Option Expr) (body : Stmt) (state : State)
    → ((maybe_reads first then for_rest test next (statement body) place) state).broken ≡ all_broken (stmt_parts (s.For first test next body) state) state
    ++ all_at place (test_kinds (seen_test (maybe_reads first state).state test))
unfolding ◌then◌
for_broken place first test next body state = (ends_on (goes_any_expression first) (for_ends place (test_kinds (seen_test (maybe_reads first state).state test)) test next body)).broken state

block_broken : (at_body : Bool) (all : List Stmt) (state : State)
    → (block_by at_body (walk_all (map statement all)) state).broken ≡ all_broken (map inner_statement all) (if at_body then enter_body state else enter_block state) ++ []
unfolding inside
block_broken true all state = (goes_all statement inner_statement goes_statement all).broken (enter_body state) ∙ no_own (all_broken (map inner_statement all) (enter_body state))
block_broken false all state = (goes_all statement inner_statement goes_statement all).broken (enter_block state) ∙ no_own (all_broken (map inner_statement all) (enter_block state))

value_broken : (value : Option Expr) (state : State) → (maybe_reads value state).broken ≡ all_broken (any expression value) state ++ []
value_broken value state = (goes_any_expression value).broken state ∙ no_own (all_broken (any expression value) state)

return_ends : (place : Place) (value : Option Expr) (state : State)
    → ((maybe_reads value then return_judged value (seen_test state value) place) state).broken ≡ all_broken (any expression value) state
    ++ all_at place (return_kinds (behind_all (any expression value) state).scope.result value (seen_test state value))
unfolding at_node
return_ends place value state = (ends_here {place = place} {kinds = λ behind. return_kinds behind.scope.result value (seen_test state value)} (return_judged value (seen_test state value) place) (λ before. refl)
    (goes_any_expression value)).broken state

stmt_form : (place : Place) (x : StmtKind-F StmtKind Stmt) (state : State)
    → (stmt_step (form_layer x) place state).broken ≡ all_broken (stmt_parts x state) (stmt_enter x state) ++ all_at place (stmt_rules x state (behind_all (stmt_parts x state) (stmt_enter x state)))
unfolding at_node
stmt_form place (s.Value value) state = value_broken value state
stmt_form place (s.Local d init) state = local_broken place d init state
stmt_form place (s.If test a None) state = (ends_on (goes_expression test) (ends_on (goes_statement a) (ends_with place (test_kinds (seen_in state test).typed) goes_nowhere))).broken state
stmt_form place (s.If test a (Some b)) state = (ends_on (goes_expression test) (ends_on (goes_statement a) (ends_with place (test_kinds (seen_in state test).typed) (goes_statement b)))).broken state
stmt_form place (s.While test body) state = (ends_on (goes_expression test) (ends_with place (test_kinds (seen_in state test).typed) (goes_body body))).broken state
stmt_form place (s.DoWhile body test) state = tested_broken place body test state
stmt_form place (s.For first test next body) state = for_broken place first test next body state
stmt_form place s.Break state = refl
stmt_form place s.Continue state = refl
stmt_form place (s.Return value) state = return_ends place value state
stmt_form place (s.Block all) state = block_broken state.scope.at_body all state

stmt_broken : (x : Stmt) (state : State) → (statement x state).broken ≡ flat_map broken_in (parts_of (OfStmt x state)) ++ broken_by (OfStmt x state)
stmt_broken x state = ap (λ (r : Walk). (r state).broken) (statement_by_form x) ∙ stmt_form x.place (out-StmtKind x.kind) state

-- ---- items

members_broken : (members : List Decl) (before : List Member) (state : State) → (gathered before members state).broken ≡ flat_map broken_in (member_nodes before members state)
members_broken [] before state = refl
members_broken (d ∷ more) before state = ap (λ (l : List Broken). (member_declared before d state).broken ++ l)
    (members_broken more (with_member d.name (member_declared before d state).kind before) (member_declared before d state).state)

struct_broken : (known : Bool) (tag : List ℕ) (members : List Decl) (place : Place) (state : State)
    → (struct_by known tag members place state).broken ≡ flat_map broken_in (member_nodes [] members (if known then state else with_struct tag state))
    ++ all_at place (struct_rules_by known (gathered [] members (if known then state else with_struct tag state)))
struct_broken true tag members place state = ap (λ (l : List Broken). l ++ all_at place (struct_rules_by true (gathered [] members state))) (members_broken members [] state)
struct_broken false tag members place state = ap (λ (l : List Broken). l ++ all_at place (struct_rules_by false (gathered [] members (with_struct tag state)))) (members_broken members [] (with_struct tag state))

goes_parameter : (d : Decl) → Goes (parameter d) (declaration AsParameter d ∷ [])
goes_parameter d = goes_once (parameter d) (declaration AsParameter d) (λ state. refl) (λ state. refl)

function_ends : (d : Decl) (params : List Decl) (body : Option Stmt) (place : Place)
    → Ends (function_inner d params body place) (map (declaration AsParameter) params ++ any inner_statement body) place (function_kinds d params body)
unfolding at_node
function_ends d params body place = ends_on (goes_all parameter (declaration AsParameter) goes_parameter params)
    (ends_here (ends_function d params body place) (λ state. refl) (goes_any_statement body))

item_form : (place : Place) (x : ItemKind) (state : State) → (item_kind x place state).broken ≡ flat_map broken_in (item_parts x state) ++ all_at place (item_rules x state)
unfolding and_then inside
item_form place (k.Struct tag members) state = struct_broken (is_some (tag_at state.scope tag)) tag members place state
item_form place (k.Var external d init) state = ap (λ (l : List Broken). (global_declared (is_definition external init) d state).broken ++ l)
    ((goes_any_initialiser f.Global (global_declared (is_definition external init) d state).kind init).broken (global_declared (is_definition external init) d state).state)
    ∙ no_own _
item_form place (k.Fun d params body) state = ap (λ (l : List Broken). (function_declared (is_some body) params d state).broken ++ l)
    ((function_ends d params body place).broken (enter_function (function_declared (is_some body) params d state).kind (function_declared (is_some body) params d state).state))
    ∙ sym (append_assoc (function_declared (is_some body) params d state).broken _ _)

-- ---- all nodes

pub parts_first : (node : Node) → broken_in node ≡ flat_map broken_in (parts_of node) ++ broken_by node
parts_first (OfExpr x functions state) = expr_broken x functions state
parts_first (OfInit x filled target state) = init_broken x filled target state
parts_first (OfDecl d role state) = decl_broken d role state
parts_first (OfStmt x state) = stmt_broken x state
parts_first (OfItem x state) = item_form x.place x.kind state

goes_item : (x : Item) → Goes (item x) (whole_item x ∷ [])
goes_item x = goes_once (item x) (whole_item x) (λ state. refl) (λ state. refl)

pub items_broken : (tree : Tree) → (items tree.items at_start).broken ≡ flat_map broken_in (item_nodes tree)
items_broken tree = (goes_all item whole_item goes_item tree.items).broken at_start
