-- Inside of a function no global and no function is declared.
use Rattle.std.proofs.Common.{◌≡◌, ℕ, ◌+◌, refl, ◌∙◌, Bool, true, false, List, [], ◌∷◌, map, length}
use Rattle.std.specs.Prelude.{Option, None, Some}
use Rattle.mx_base.specs.declared.places.Place.{Place}
use Rattle.c_tree.specs.declared.tree.Decl.{Decl}
use Rattle.c_tree.specs.declared.tree.Expr.{Expr}
use Rattle.c_tree.specs.declared.tree.Init.{Init, Init-F}
use Rattle.c_tree.specs.declared.tree.InitKind.{InitKind-F}
use Rattle.c_tree.specs.declared.tree.InitKind.TheOpen as i
use Rattle.c_tree.specs.declared.tree.Stmt.{Stmt, Stmt-F}
use Rattle.c_tree.specs.declared.tree.StmtKind.{StmtKind-F}
use Rattle.c_tree.specs.declared.tree.StmtKind.TheOpen as s
use Rattle.c_types.specs.Types.{CType}
use Rattle.c_check_rules.specs.declared.names.Member.{Member}
use Rattle.c_check_rules.specs.declared.names.Variable.{Variable}
use Rattle.c_check_rules.specs.declared.names.Function.{Function}
use Rattle.c_check_rules.specs.declared.predeclared.Bind.{Bind}
use Rattle.c_check_typing.specs.declared.fault.CheckKind.{CheckKind}
use Rattle.c_check_statements.specs.declared.decls.Use.{Use}
use Rattle.c_check_rules.specs.declared.names.Scope.{Scope}
use Rattle.c_check_statements.specs.declared.initialisers.Filled.{Filled}
use Rattle.c_check_statements.specs.declared.initialisers.Filled.TheVariants as f
use Rattle.c_check_statements.specs.declared.state.State.{State}
use Rattle.c_check_typing.specs.Notes.{Seen}
use Rattle.c_check_statements.specs.Walks.{Walk, stay, ◌then◌, walk_all, at_node, inside, seen_in, past, reads, maybe_reads}
use Rattle.c_check_statements.specs.Declarations.{Declared, introduced, declares, and_then, local_declared, parameter_declared}
use Rattle.c_check_statements.specs.Initialisers.{Filling, filling, fills_target, filling_walk, one_kinds, one_word, notes_word, part, part_of, parts, many_kinds, many_judged, init_step, fills, maybe_fills}
use Rattle.c_check_statements.specs.Statements.{local_judged, local, enter_block, leave_block, enter_body, block_by, enter_loop, leave_loop, looped, test_kinds, seen_test, tested, for_rest, return_judged, if_walk, stmt_step, statement, maybe_statement}
use Rattle.c_check_statements.specs.Structs.{member_declared, with_member, gathered, with_struct, struct_by, struct_walk}
use Rattle.c_tree.proofs.Inductions.{InitA, InitB, bare_inits, every_inits, StmtA, StmtB, bare_stmts, every_stmts}

-- what is known of globals and functions
abbrev pub Known : Type 0
Known = List Bind × List Variable × List Function

abbrev pub known_of : State → Known
known_of state = (state.order, state.scope.variables, state.scope.functions)

abbrev pub Keeps : Walk → Type 0
Keeps walk = (state : State) → known_of (walk state).state ≡ known_of state

kept_stay : Keeps stay
kept_stay state = refl

pub kept_then : (a b : Walk) → Keeps a → Keeps b → Keeps (a then b)
unfolding ◌then◌
kept_then a b h g state = g (a state).state ∙ h state

pub kept_node : (place : Place) (kinds : List CheckKind) → Keeps (at_node place kinds)
unfolding at_node
kept_node place kinds state = refl

pub kept_inside : (enter : State → State) (walk : Walk) (leave : (old new : State) → State) → ((state : State) → known_of (enter state) ≡ known_of state) → ((old new : State) → known_of (leave old new) ≡ known_of new) → Keeps walk → Keeps (inside enter walk leave)
unfolding inside
kept_inside enter walk leave e l h state = l state (walk (enter state)).state ∙ (h (enter state) ∙ e state)

kept_past : (x : Seen) → Keeps (past x)
unfolding past
kept_past x state = refl

kept_reads : (x : Expr) → Keeps (reads x)
kept_reads x state = kept_past (seen_in state x) state

kept_maybe_reads : (o : Option Expr) → Keeps (maybe_reads o)
kept_maybe_reads None = kept_stay
kept_maybe_reads (Some x) = kept_reads x

-- ---- declarations

kept_introduced : (introduce : CType → State → State) (kind : Option CType) (state : State) → ((kind : CType) (state : State) → known_of (introduce kind state) ≡ known_of state) → known_of (introduced introduce kind state) ≡ known_of state
kept_introduced introduce None state h = refl
kept_introduced introduce (Some kind) state h = h kind state

kept_declares : (usage : Use) (twice : Scope → Option CType → Bool) (wrong : Bool) (introduce : CType → State → State) (d : Decl) (state : State) → ((kind : CType) (state : State) → known_of (introduce kind state) ≡ known_of state) → known_of (declares usage twice wrong introduce d state).state ≡ known_of state
unfolding declares
kept_declares usage twice wrong introduce d state h = kept_introduced introduce _ _ h

pub kept_and_then : (d : Declared) (next : Option CType → Walk) → ((kind : Option CType) → Keeps (next kind)) → known_of (and_then d next).state ≡ known_of (d.state)
unfolding and_then
kept_and_then d next h = h d.kind d.state

kept_local : (d : Decl) (state : State) → known_of (local_declared d state).state ≡ known_of state
kept_local d state = kept_declares _ _ _ _ d state (λ kind state. refl)

pub kept_parameter : (d : Decl) (state : State) → known_of (parameter_declared d state).state ≡ known_of state
kept_parameter d state = kept_declares _ _ _ _ d state (λ kind state. refl)

kept_member : (members : List Member) (d : Decl) (state : State) → known_of (member_declared members d state).state ≡ known_of state
kept_member members d state = kept_declares _ _ _ _ d state (λ kind state. refl)

-- ---- initialisers

kept_word : (word : Option ℕ) → Keeps (notes_word word)
unfolding notes_word
kept_word word state = refl

abbrev KeepsFilling : Filling → Type 0
KeepsFilling fill = (filled : Filled) (target : Option CType) → Keeps (fill filled target)

abbrev KeepsAt : (Place → Filling) → Type 0
KeepsAt a = (place : Place) → KeepsFilling (a place)

abbrev init_struct : Init-F (Place → Filling) Filling → Filling
init_struct x = x.kind x.place

abbrev FillsA : Type 0
FillsA = InitA (Place → Filling) Filling init_step init_struct KeepsAt KeepsFilling

abbrev FillsB : Type 0
FillsB = InitB (Place → Filling) Filling init_step init_struct KeepsAt KeepsFilling

kept_parts : (filled : Filled) (target : Option CType) (at : ℕ) (all : List FillsB) → Keeps (parts filled target at (map (λ y. y.0) all))
kept_parts filled target at [] = kept_stay
kept_parts filled target at (x ∷ more) = kept_then _ _ (λ state. x.1 (part filled) (part_of state.scope.structs target at) state) (kept_parts filled target (at + 1) more)

kept_init : (y : InitKind-F FillsA FillsB) → KeepsAt (init_step (bare_inits (Place → Filling) Filling init_step init_struct KeepsAt KeepsFilling y))
kept_init (i.One x) place filled target state = kept_then (filling_walk target x) (at_node place (one_kinds filled target (seen_in state x).typed) then notes_word (one_word filled target (seen_in state x).typed))
    (λ st. kept_past (filling (fills_target target (seen_in st x).typed) (seen_in st x)) st)
    (kept_then _ _ (kept_node place (one_kinds filled target (seen_in state x).typed)) (kept_word (one_word filled target (seen_in state x).typed))) state
kept_init (i.Many all) place filled target state = kept_then _ (many_judged target (length (map (λ y. y.0) all)) place) (kept_parts filled target 0 all) (λ st. kept_node place (many_kinds st.scope.structs target (length (map (λ y. y.0) all))) st) state

kept_fills : (x : Init) → KeepsFilling (fills x)
kept_fills x = every_inits (Place → Filling) Filling init_step init_struct KeepsAt KeepsFilling kept_init (λ y. y.kind.1 y.place) x

pub kept_maybe_fills : (o : Option Init) (filled : Filled) (target : Option CType) → Keeps (maybe_fills o filled target)
kept_maybe_fills None filled target = kept_stay
kept_maybe_fills (Some x) filled target = kept_fills x filled target

-- ---- statements

abbrev KeepsStmt : (Place → Walk) → Type 0
KeepsStmt a = (place : Place) → Keeps (a place)

abbrev stmt_struct : Stmt-F (Place → Walk) Walk → Walk
stmt_struct x = x.kind x.place

abbrev StmtsA : Type 0
StmtsA = StmtA (Place → Walk) Walk stmt_step stmt_struct KeepsStmt Keeps

abbrev StmtsB : Type 0
StmtsB = StmtB (Place → Walk) Walk stmt_step stmt_struct KeepsStmt Keeps

kept_all : (all : List StmtsB) → Keeps (walk_all (map (λ y. y.0) all))
kept_all [] = kept_stay
kept_all (x ∷ more) = kept_then x.0 (walk_all (map (λ y. y.0) more)) x.1 (kept_all more)

kept_looped : (body : Walk) → Keeps body → Keeps (looped body)
kept_looped body h = kept_inside enter_loop body leave_loop (λ state. refl) (λ old new. refl) h

kept_block : (b : Bool) (all : Walk) → Keeps all → Keeps (block_by b all)
kept_block true all h state = h (enter_body state)
kept_block false all h state = kept_inside enter_block all leave_block (λ state. refl) (λ old new. refl) h state

kept_declared : (d : Decl) (init : Option Init) (place : Place) → Keeps (local d init place)
kept_declared d init place state = kept_and_then (local_declared d state) (λ kind. maybe_fills init f.Local kind then local_judged init kind place)
    (λ kind. kept_then (maybe_fills init f.Local kind) (local_judged init kind place) (kept_maybe_fills init f.Local kind) (λ st. kept_node place _ st)) ∙ kept_local d state

kept_if : (test : Expr) (a other : Walk) (place : Place) → Keeps a → Keeps other → Keeps (if_walk test a other place)
kept_if test a other place h g state = kept_then (reads test) _ (kept_reads test) (kept_then a _ h (kept_then other _ g (kept_node place _))) state

kept_for : (test next : Option Expr) (body : Walk) (place : Place) → Keeps body → Keeps (for_rest test next body place)
kept_for test next body place h state = kept_then (maybe_reads test) _ (kept_maybe_reads test) (kept_then (maybe_reads next) _ (kept_maybe_reads next) (kept_then (looped body) _ (kept_looped body h) (kept_node place _))) state

kept_stmt : (y : StmtKind-F StmtsA StmtsB) → KeepsStmt (stmt_step (bare_stmts (Place → Walk) Walk stmt_step stmt_struct KeepsStmt Keeps y))
kept_stmt (s.Value value) place state = kept_maybe_reads value state
kept_stmt (s.Local d init) place state = kept_declared d init place state
kept_stmt (s.If test a None) place state = kept_if test a.0 stay place a.1 kept_stay state
kept_stmt (s.If test a (Some b)) place state = kept_if test a.0 b.0 place a.1 b.1 state
kept_stmt (s.While test body) place state = kept_then (reads test) _ (kept_reads test) (kept_then (looped body.0) _ (kept_looped body.0 body.1) (kept_node place (test_kinds (seen_in state test).typed))) state
kept_stmt (s.DoWhile body test) place state = kept_then (looped body.0) (tested test place) (kept_looped body.0 body.1) (λ st. kept_then (reads test) _ (kept_reads test) (kept_node place (test_kinds (seen_in st test).typed)) st) state
kept_stmt (s.For first test next body) place state = kept_then (maybe_reads first) (for_rest test next body.0 place) (kept_maybe_reads first) (kept_for test next body.0 place body.1) state
kept_stmt s.Break place state = kept_node place _ state
kept_stmt s.Continue place state = kept_node place _ state
kept_stmt (s.Return value) place state = kept_then (maybe_reads value) (return_judged value (seen_test state value) place) (kept_maybe_reads value) (λ st. kept_node place _ st) state
kept_stmt (s.Block all) place state = kept_block state.scope.at_body (walk_all (map (λ y. y.0) all)) (kept_all all) state

kept_statement : (x : Stmt) → Keeps (statement x)
kept_statement x = every_stmts (Place → Walk) Walk stmt_step stmt_struct KeepsStmt Keeps kept_stmt (λ y. y.kind.1 y.place) x

pub kept_maybe_statement : (o : Option Stmt) → Keeps (maybe_statement o)
kept_maybe_statement None = kept_stay
kept_maybe_statement (Some x) = kept_statement x

-- ---- structs

kept_gathered : (members : List Member) (all : List Decl) (state : State) → known_of (gathered members all state).state ≡ known_of state
kept_gathered members [] state = refl
kept_gathered members (d ∷ more) state = kept_gathered (with_member d.name (member_declared members d state).kind members) more (member_declared members d state).state ∙ kept_member members d state

kept_struct_by : (known : Bool) (tag : List ℕ) (members : List Decl) (place : Place) → Keeps (struct_by known tag members place)
kept_struct_by true tag members place state = kept_gathered [] members state
kept_struct_by false tag members place state = kept_gathered [] members (with_struct tag state)

pub kept_struct : (tag : List ℕ) (members : List Decl) (place : Place) → Keeps (struct_walk tag members place)
kept_struct tag members place state = kept_struct_by _ tag members place state
