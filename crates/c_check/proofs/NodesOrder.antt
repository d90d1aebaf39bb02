-- The rules of each node are listed in the order of their kinds.
use Rattle.std.proofs.Common.{◌≡◌, ap, ◌∙◌, refl, ℕ, nat_lt, Bool, true, false, ◌&&◌, List, [], ◌++◌}
use Rattle.std.specs.Prelude.{Option, None, Some, length}
use Rattle.c_tree.specs.declared.tree.ItemKind.{ItemKind}
use Rattle.c_tree.specs.declared.tree.ItemKind.TheVariants as k
use Rattle.c_tree.specs.declared.tree.Decl.{Decl}
use Rattle.c_tree.specs.declared.tree.Expr.{Expr}
use Rattle.c_tree.specs.declared.tree.ExprKind.{ExprKind, ExprKind-F, out-ExprKind}
use Rattle.c_tree.specs.declared.tree.ExprKind.TheOpen as e
use Rattle.c_tree.specs.declared.tree.Init.{Init}
use Rattle.c_tree.specs.declared.tree.InitKind.{InitKind, InitKind-F, out-InitKind}
use Rattle.c_tree.specs.declared.tree.InitKind.TheOpen as n
use Rattle.c_tree.specs.declared.tree.Stmt.{Stmt}
use Rattle.c_tree.specs.declared.tree.StmtKind.{StmtKind, StmtKind-F, out-StmtKind}
use Rattle.c_tree.specs.declared.tree.StmtKind.TheOpen as s
use Rattle.c_types.specs.Types.{CType}
use Rattle.c_check_rules.specs.declared.names.Scope.{Scope}
use Rattle.c_check_rules.specs.declared.names.StructInfo.{StructInfo}
use Rattle.c_check_rules.specs.Names.{found_in}
use Rattle.c_check_typing.specs.declared.typed.Typed.{Typed}
use Rattle.c_check_typing.specs.declared.fault.CheckKind.{CheckKind}
use Rattle.c_check_typing.specs.declared.fault.CheckKind.TheVariants.{Unknown, Twice, BadCount, NotConst, NotPlace, BadType, ManyParams, ManyPointers, LargeCopy, FrameLarge}
use Rattle.c_check_typing.specs.Refusals.{breaks, rank, comes_before, InOrder}
use Rattle.c_check_typing.specs.Notes.{Own, with_typed}
use Rattle.c_check_statements.specs.declared.decls.Use.{Use}
use Rattle.c_check_statements.specs.declared.decls.Use.TheVariants as u
use Rattle.c_check_statements.specs.declared.initialisers.Filled.{Filled}
use Rattle.c_check_statements.specs.declared.state.State.{State}
use Rattle.c_check_statements.specs.Walks.{seen_in}
use Rattle.c_check_statements.specs.Declarations.{is_here, is_main, global_twice, function_twice}
use Rattle.c_check_statements.specs.Initialisers.{one_kinds, many_kinds}
use Rattle.c_check_statements.specs.Statements.{test_kinds, return_kinds, local_kinds}
use Rattle.c_check_statements.specs.Structs.{Gathered, gathered, is_member}
use Rattle.c_check.specs.Nodes.{Role, AsMember, AsParameter, AsLocal, AsGlobal, AsFunction, Node, OfExpr, OfInit, OfDecl, OfStmt, OfItem, is_tag, enter_struct}
use Rattle.c_check.specs.NodeRules.{expr_own, init_rules, decl_rules_by, decl_rules, stmt_rules, struct_rules_by, item_rules, rules_of}
use Rattle.c_check_expressions.proofs.Order.{text_order, name_order, unary_order, binary_order, choice_order, assign_order, step_order, index_order, member_order, arrow_order, cast_order, size_order, size_of_kind_order, call_order}

-- ---- lists of rules that are broken or not

both : {a b : Bool} → a ≡ true → b ≡ true → (a && b) ≡ true
both {b = b} e h = ap (λ (x : Bool). x && b) e ∙ h

one_kind : (kind : CheckKind) (b : Bool) → InOrder (breaks kind b)
one_kind kind true = refl
one_kind kind false = refl

more_kinds : (kind : CheckKind) (b : Bool) (rest : List CheckKind) → comes_before kind rest ≡ true → InOrder rest → InOrder (breaks kind b ++ rest)
more_kinds kind true rest e h = both e h
more_kinds kind false rest e h = h

before_last : (kind last : CheckKind) (b : Bool) → nat_lt (rank kind) (rank last) ≡ true → comes_before kind (breaks last b) ≡ true
before_last kind last true e = e
before_last kind last false e = refl

before_more : (kind second : CheckKind) (b : Bool) (rest : List CheckKind) → nat_lt (rank kind) (rank second) ≡ true → comes_before kind rest ≡ true → comes_before kind (breaks second b ++ rest) ≡ true
before_more kind second true rest e h = e
before_more kind second false rest e h = h

-- ---- expressions

if_known : (t : Option Typed) (own : Typed → Own) → ((t : Typed) → InOrder (own t).broken) → InOrder (with_typed t own).broken
if_known None own h = refl
if_known (Some t) own h = h t

expr_order : (x : ExprKind-F ExprKind Expr) (functions : Bool) (state : State) → InOrder (expr_own x functions state).broken
expr_order (e.Number n kind) functions state = refl
expr_order (e.Text bytes) functions state = text_order bytes
expr_order (e.Var name) functions state = name_order functions (found_in state.scope name)
expr_order (e.Unary op a) functions state = if_known (seen_in state a).typed _ (unary_order state.scope.structs op)
expr_order (e.Binary op a b) functions state = if_known (seen_in state a).typed _ (λ t. if_known (seen_in state b).typed _ (binary_order state.scope.structs op t))
expr_order (e.Assign op a b) functions state = if_known (seen_in state a).typed _ (λ t. if_known (seen_in state b).typed _ (assign_order state.scope.structs op t))
expr_order (e.StepBy up before a) functions state = if_known (seen_in state a).typed _ (step_order state.scope.structs)
expr_order (e.Cond c a b) functions state = if_known (seen_in state c).typed _ (λ t. if_known (seen_in state a).typed _ (λ u. if_known (seen_in state b).typed _ (choice_order t u)))
expr_order (e.Call name all) functions state = call_order (found_in state.scope name) _
expr_order (e.Index a b) functions state = if_known (seen_in state a).typed _ (λ t. if_known (seen_in state b).typed _ (index_order state.scope.structs t))
expr_order (e.Member a name) functions state = if_known (seen_in state a).typed _ (member_order state.scope.structs name)
expr_order (e.Arrow a name) functions state = if_known (seen_in state a).typed _ (arrow_order state.scope.structs name)
expr_order (e.Cast base stars a) functions state = cast_order state.scope base stars (seen_in state a).typed
expr_order (e.SizeOfKind base stars) functions state = size_of_kind_order state.scope base stars
expr_order (e.SizeOfValue a) functions state = if_known (seen_in state a).typed _ (λ t. size_order state.scope.structs t.kind)

-- ---- initialisers

three_of_value : (a b c : Bool) → InOrder (breaks NotConst a ++ (breaks NotPlace b ++ breaks BadType c))
three_of_value a b c = more_kinds NotConst a (breaks NotPlace b ++ breaks BadType c) (before_more NotConst NotPlace b (breaks BadType c) refl (before_last NotConst BadType c refl))
    (more_kinds NotPlace b (breaks BadType c) (before_last NotPlace BadType c refl) (one_kind BadType c))

one_order : (filled : Filled) (target : Option CType) (t : Option Typed) → InOrder (one_kinds filled target t)
one_order filled target None = refl
one_order filled None (Some t) = one_kind NotPlace _
one_order filled (Some kind) (Some t) = three_of_value _ _ _

many_order : (structs : List StructInfo) (target : Option CType) (count : ℕ) → InOrder (many_kinds structs target count)
many_order structs None count = refl
many_order structs (Some kind) count = one_kind BadType _

init_order : (x : InitKind-F InitKind Init) (filled : Filled) (target : Option CType) (before behind : State) → InOrder (init_rules x filled target before behind)
init_order (n.One x) filled target before behind = one_order filled target (seen_in before x).typed
init_order (n.Many all) filled target before behind = many_order behind.scope.structs target (length all)

-- ---- declarations

from_const : (d e : Bool) → InOrder (breaks NotConst d ++ breaks BadType e)
from_const d e = more_kinds NotConst d (breaks BadType e) (before_last NotConst BadType e refl) (one_kind BadType e)

from_count : (c d e : Bool) → InOrder (breaks BadCount c ++ (breaks NotConst d ++ breaks BadType e))
from_count c d e = more_kinds BadCount c (breaks NotConst d ++ breaks BadType e) (before_more BadCount NotConst d (breaks BadType e) refl (before_last BadCount BadType e refl)) (from_const d e)

from_twice : (b c d e : Bool) → InOrder (breaks Twice b ++ (breaks BadCount c ++ (breaks NotConst d ++ breaks BadType e)))
from_twice b c d e = more_kinds Twice b (breaks BadCount c ++ (breaks NotConst d ++ breaks BadType e))
    (before_more Twice BadCount c (breaks NotConst d ++ breaks BadType e) refl (before_more Twice NotConst d (breaks BadType e) refl (before_last Twice BadType e refl))) (from_count c d e)

five_of_declaration : (a b c d e : Bool) → InOrder (breaks Unknown a ++ (breaks Twice b ++ (breaks BadCount c ++ (breaks NotConst d ++ breaks BadType e))))
five_of_declaration a b c d e = more_kinds Unknown a (breaks Twice b ++ (breaks BadCount c ++ (breaks NotConst d ++ breaks BadType e)))
    (before_more Unknown Twice b (breaks BadCount c ++ (breaks NotConst d ++ breaks BadType e)) refl
    (before_more Unknown BadCount c (breaks NotConst d ++ breaks BadType e) refl (before_more Unknown NotConst d (breaks BadType e) refl (before_last Unknown BadType e refl)))) (from_twice b c d e)

kinds_order : (usage : Use) (twice : Scope → Option CType → Bool) (wrong : Bool) (d : Decl) (state : State) → InOrder (decl_rules_by usage twice wrong d state)
kinds_order usage twice wrong d state = five_of_declaration _ _ _ _ _

decl_order : (role : Role) (d : Decl) (state : State) → InOrder (decl_rules role d state)
decl_order (AsMember before) d state = kinds_order u.Variable (λ scope kind. is_member d.name before) false d state
decl_order AsParameter d state = kinds_order u.Parameter (is_here d.name) false d state
decl_order AsLocal d state = kinds_order u.Variable (is_here d.name) false d state
decl_order (AsGlobal defined) d state = kinds_order u.Variable (global_twice d.name) (is_main d.name) d state
decl_order (AsFunction defined params) d state = kinds_order u.Result (function_twice d.name params) false d state

-- ---- statements

test_order : (t : Option Typed) → InOrder (test_kinds t)
test_order None = refl
test_order (Some t) = one_kind BadType _

return_order : (result : Option CType) (value : Option Expr) (t : Option Typed) → InOrder (return_kinds result value t)
return_order None None t = refl
return_order (Some result) None t = one_kind BadType _
return_order result (Some x) None = refl
return_order None (Some x) (Some t) = refl
return_order (Some result) (Some x) (Some t) = one_kind BadType _

local_order : (structs : List StructInfo) (init : Option Init) (kind : Option CType) → InOrder (local_kinds structs init kind)
local_order structs None kind = refl
local_order structs (Some x) None = refl
local_order structs (Some x) (Some kind) = one_kind LargeCopy _

stmt_order : (x : StmtKind-F StmtKind Stmt) (before behind : State) → InOrder (stmt_rules x before behind)
stmt_order (s.Value value) before behind = refl
stmt_order (s.Local d init) before behind = local_order behind.scope.structs init _
stmt_order (s.If test a other) before behind = test_order (seen_in before test).typed
stmt_order (s.While test body) before behind = test_order (seen_in before test).typed
stmt_order (s.DoWhile body test) before behind = test_order _
stmt_order (s.For first test next body) before behind = test_order _
stmt_order s.Break before behind = one_kind BadType _
stmt_order s.Continue before behind = one_kind BadType _
stmt_order (s.Return value) before behind = return_order behind.scope.result value _
stmt_order (s.Block all) before behind = refl

-- ---- items

struct_order : (known : Bool) (g : Gathered) → InOrder (struct_rules_by known g)
struct_order true g = refl
struct_order false g = one_kind BadCount _

from_params : (b c d : Bool) → InOrder (breaks ManyParams b ++ (breaks ManyPointers c ++ breaks FrameLarge d))
from_params b c d = more_kinds ManyParams b (breaks ManyPointers c ++ breaks FrameLarge d) (before_more ManyParams ManyPointers c (breaks FrameLarge d) refl (before_last ManyParams FrameLarge d refl))
    (more_kinds ManyPointers c (breaks FrameLarge d) (before_last ManyPointers FrameLarge d refl) (one_kind FrameLarge d))

four_of_function : (a b c d : Bool) → InOrder (breaks BadType a ++ (breaks ManyParams b ++ (breaks ManyPointers c ++ breaks FrameLarge d)))
four_of_function a b c d = more_kinds BadType a (breaks ManyParams b ++ (breaks ManyPointers c ++ breaks FrameLarge d))
    (before_more BadType ManyParams b (breaks ManyPointers c ++ breaks FrameLarge d) refl (before_more BadType ManyPointers c (breaks FrameLarge d) refl (before_last BadType FrameLarge d refl))) (from_params b c d)

item_order : (x : ItemKind) (state : State) → InOrder (item_rules x state)
item_order (k.Struct tag members) state = struct_order (is_tag tag state) (gathered [] members (enter_struct tag state))
item_order (k.Var external d init) state = refl
item_order (k.Fun d params body) state = four_of_function _ _ _ _

-- ---- all nodes

pub node_order : (node : Node) → InOrder (rules_of node)
node_order (OfExpr x functions state) = expr_order (out-ExprKind x.kind) functions state
node_order (OfInit x filled target state) = init_order (out-InitKind x.kind) filled target state _
node_order (OfDecl d role state) = decl_order role d state
node_order (OfStmt x state) = stmt_order (out-StmtKind x.kind) state _
node_order (OfItem x state) = item_order x.kind state
