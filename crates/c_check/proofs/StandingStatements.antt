-- What is known stands behind initialisers and statements: by induction, with their nodes and their stars.
use Rattle.std.proofs.Common.{◌≡◌, ℕ, ◌+◌, ◌≤◌, refl, ◌∙◌, subst, Bool, true, false, Option, None, Some, List, [], ◌∷◌, map, length, arith}
use Rattle.mx_base.specs.declared.places.Place.{Place}
use Rattle.c_tree.specs.declared.tree.Decl.{Decl}
use Rattle.c_tree.specs.declared.tree.Expr.{Expr}
use Rattle.c_tree.specs.declared.tree.Init.{Init, Init-F}
use Rattle.c_tree.specs.declared.tree.InitKind.{InitKind-F}
use Rattle.c_tree.specs.declared.tree.InitKind.TheFolds as nf
use Rattle.c_tree.specs.declared.tree.InitKind.TheOpen as i
use Rattle.c_tree.specs.declared.tree.Stmt.{Stmt, Stmt-F}
use Rattle.c_tree.specs.declared.tree.StmtKind.{StmtKind-F}
use Rattle.c_tree.specs.declared.tree.StmtKind.TheFolds as sf
use Rattle.c_tree.specs.declared.tree.StmtKind.TheOpen as s
use Rattle.c_tree.specs.Count as count
use Rattle.c_tree.specs.Stars as star
use Rattle.c_tree.proofs.Inductions.{InitA, InitB, bare_inits, every_inits, inits_fused, StmtA, StmtB, bare_stmts, every_stmts, stmts_fused}
use Rattle.c_types.specs.Types.{CType}
use Rattle.c_check_rules.specs.declared.names.StructInfo.{StructInfo}
use Rattle.c_check_typing.specs.Notes.{Seen, with_constant}
use Rattle.c_check_statements.specs.declared.initialisers.Filled.{Filled}
use Rattle.c_check_statements.specs.declared.initialisers.Filled.TheVariants as f
use Rattle.c_check_statements.specs.declared.state.State.{State}
use Rattle.c_check_statements.specs.Declarations.{Declared, and_then, local_declared}
use Rattle.c_check_statements.specs.Initialisers.{Filling, filling, fills_target, filling_walk, one_kinds, one_word, notes_word, part, part_of, part_walk, parts, many_judged, init_step, fills, maybe_fills}
use Rattle.c_check_statements.specs.Statements.{local_judged, local, looped, test_kinds, seen_test, tested, if_walk, while_walk, for_rest, return_judged, return_walk, stmt_step, statement, maybe_statement}
use Rattle.c_check_statements.specs.Walks.{Walk, stay, ◌then◌, walk_all, at_node, seen_in, reads, maybe_reads}
use Rattle.c_check.proofs.StandingExpressions.{GoodSeen, unevaluated_seen}
use Rattle.c_check.proofs.StandingNames.{goes_local}
use Rattle.c_check.proofs.StandingWalks.{Good, good_more, Keeps, Goes, goes_more, goes_stay, goes_then, goes_node, goes_past, seen_good, goes_reads, goes_maybe_reads, goes_block, goes_looped}

-- a declaration and what comes behind it
pub goes_and_then : (n k : ℕ) (declared : State → Declared) (next : Option CType → Walk) → ((m top : ℕ) (state : State) → m + n ≤ top → Good m state → Keeps top state (declared state).state) → ((kind : Option CType) → Goes k (next kind))
    → Goes (n + k) (λ state. and_then (declared state) next)
unfolding and_then
goes_and_then n k declared next h j m top state at g =
    let first = h m (m + n) state (omega arith) g in
    let second = j (declared state).kind (m + n) top (declared state).state (omega (arith, at)) first.0 in
    (second.0, second.1 ∙ first.1)

-- ---- initialisers

filling_good : (structs : List StructInfo) (most n : ℕ) (b : Bool) (x : Seen) → GoodSeen structs most n x → GoodSeen structs most n (filling b x)
filling_good structs most n true x h = unevaluated_seen structs most n x h
filling_good structs most n false x h = h

goes_filling : (target : Option CType) (x : Expr) → star.expr_stars x ≤ 255 → Goes (count.expr_nodes x) (filling_walk target x)
goes_filling target x le m top state at g = goes_past (count.expr_nodes x) m top (filling (fills_target target (seen_in state x).typed) (seen_in state x)) state at
    (filling_good state.scope.structs (255 + m) (count.expr_nodes x) (fills_target target (seen_in state x).typed) (seen_in state x) (seen_good x le m state g)) g

abbrev GoodFilling : Filling → (nodes stars : ℕ) → Type 0
GoodFilling fill n s = s ≤ 255 → (filled : Filled) (target : Option CType) → Goes n (fill filled target)

abbrev InitKinds : Type 0
InitKinds = (Place → Filling) × ℕ × ℕ

abbrev Inits : Type 0
Inits = Filling × ℕ × ℕ

abbrev init_all : InitKind-F InitKinds Inits → InitKinds
init_all y = (
  init_step (nf.map-InitKind InitKinds Inits (Place → Filling) Filling (λ a. a.0) (λ b. b.0) y),
  count.init_step (nf.map-InitKind InitKinds Inits ℕ ℕ (λ a. a.1) (λ b. b.1) y),
  star.init_step (nf.map-InitKind InitKinds Inits ℕ ℕ (λ a. a.2) (λ b. b.2) y),
)

abbrev init_struct : Init-F InitKinds Inits → Inits
init_struct y = (y.kind.0 y.place, y.kind.1, y.kind.2)

abbrev GoodInitKind : InitKinds → Type 0
GoodInitKind a = (place : Place) → GoodFilling (a.0 place) a.1 a.2

abbrev GoodInit : Inits → Type 0
GoodInit b = GoodFilling b.0 b.1 b.2

abbrev FillsA : Type 0
FillsA = InitA InitKinds Inits init_all init_struct GoodInitKind GoodInit

abbrev FillsB : Type 0
FillsB = InitB InitKinds Inits init_all init_struct GoodInitKind GoodInit

goes_parts : (all : List FillsB) → star.most (map (λ b. b.2) (map (λ y. y.0) all)) ≤ 255 → (filled : Filled) (target : Option CType) (at : ℕ)
    → Goes (count.total (map (λ b. b.1) (map (λ y. y.0) all))) (parts filled target at (map (λ b. b.0) (map (λ y. y.0) all)))
goes_parts [] le filled target at = goes_stay 0
goes_parts (x ∷ more) le filled target at = goes_then x.0.1 _ (part_walk filled target at x.0.0) _
    (λ m top state room g. x.1 (omega arith) (part filled) (part_of state.scope.structs target at) m top state room g) (goes_parts more (omega arith) filled target (at + 1))

goes_word : (n : ℕ) (word : Option ℕ) → Goes n (notes_word word)
unfolding notes_word
goes_word n None m top state at g = (good_more m top state (omega (arith, at)) g, refl)
goes_word n (Some w) m top state at g =
    let more = good_more m top state (omega (arith, at)) g in
    let good : Good top (record state { notes = with_constant (Some w) state.notes }) = record { scope = more.scope; notes = record { kinds = more.notes.kinds; declared = more.notes.declared }; bodies = more.bodies; few = more.few } in
    (good, refl)

goes_init : (y : InitKind-F FillsA FillsB) → GoodInitKind (init_all (bare_inits InitKinds Inits init_all init_struct GoodInitKind GoodInit y))
goes_init (i.One x) = λ place le filled target m top state at g. goes_then (count.expr_nodes x) 1 (filling_walk target x)
    (at_node place (one_kinds filled target (seen_in state x).typed) then notes_word (one_word filled target (seen_in state x).typed)) (goes_filling target x le)
    (goes_then 1 0 (at_node place (one_kinds filled target (seen_in state x).typed)) (notes_word (one_word filled target (seen_in state x).typed)) (goes_node 1 place (one_kinds filled target (seen_in state x).typed)) (goes_word 0 (one_word filled target (seen_in state x).typed)))
    m top state at g
goes_init (i.Many all) = λ place le filled target m top state at g. goes_then _ 1 (parts filled target 0 (map (λ b. b.0) (map (λ y. y.0) all))) (many_judged target (length (map (λ b. b.0) (map (λ y. y.0) all))) place)
    (goes_parts all le filled target 0) (λ m top state at g. goes_node 1 place _ m top state at g) m top state at g

filling_moved : (r r' : Filling) (n n' s s' : ℕ) → r ≡ r' → n ≡ n' → s ≡ s' → GoodFilling r n s → GoodFilling r' n' s'
filling_moved r r' n n' s s' a b c h = subst (λ x. GoodFilling x n' s') a (subst (λ x. GoodFilling r x s') b (subst (λ x. GoodFilling r n x) c h))

goes_fills : (x : Init) → GoodFilling (fills x) (count.init_nodes x) (star.init_stars x)
goes_fills x = filling_moved _ (fills x) _ (count.init_nodes x) _ (star.init_stars x)
    (inits_fused InitKinds Inits (Place → Filling) Filling init_all init_struct init_step (λ x. x.kind x.place) (λ a. a.0) (λ b. b.0) (λ y. refl) (λ y. refl) x)
    (inits_fused InitKinds Inits ℕ ℕ init_all init_struct count.init_step (λ x. x.kind) (λ a. a.1) (λ b. b.1) (λ y. refl) (λ y. refl) x)
    (inits_fused InitKinds Inits ℕ ℕ init_all init_struct star.init_step (λ x. x.kind) (λ a. a.2) (λ b. b.2) (λ y. refl) (λ y. refl) x)
    (every_inits InitKinds Inits init_all init_struct GoodInitKind GoodInit goes_init (λ y. y.kind.1 y.place) x)

pub goes_maybe_fills : (o : Option Init) → star.maybe_init o ≤ 255 → (filled : Filled) (target : Option CType) → Goes (count.maybe_init o) (maybe_fills o filled target)
goes_maybe_fills None le filled target = goes_stay 0
goes_maybe_fills (Some x) le filled target = goes_fills x le filled target

-- ---- statements

abbrev GoodStmt : Walk → (nodes stars : ℕ) → Type 0
GoodStmt walk n s = s ≤ 255 → Goes n walk

abbrev StmtKinds : Type 0
StmtKinds = (Place → Walk) × ℕ × ℕ

abbrev Stmts : Type 0
Stmts = Walk × ℕ × ℕ

abbrev stmt_all : StmtKind-F StmtKinds Stmts → StmtKinds
stmt_all y = (
  stmt_step (sf.map-StmtKind StmtKinds Stmts (Place → Walk) Walk (λ a. a.0) (λ b. b.0) y),
  count.stmt_step (sf.map-StmtKind StmtKinds Stmts ℕ ℕ (λ a. a.1) (λ b. b.1) y),
  star.stmt_step (sf.map-StmtKind StmtKinds Stmts ℕ ℕ (λ a. a.2) (λ b. b.2) y),
)

abbrev stmt_struct : Stmt-F StmtKinds Stmts → Stmts
stmt_struct y = (y.kind.0 y.place, y.kind.1, y.kind.2)

abbrev GoodStmtKind : StmtKinds → Type 0
GoodStmtKind a = (place : Place) → GoodStmt (a.0 place) a.1 a.2

abbrev GoodStmts : Stmts → Type 0
GoodStmts b = GoodStmt b.0 b.1 b.2

abbrev StmtsA : Type 0
StmtsA = StmtA StmtKinds Stmts stmt_all stmt_struct GoodStmtKind GoodStmts

abbrev StmtsB : Type 0
StmtsB = StmtB StmtKinds Stmts stmt_all stmt_struct GoodStmtKind GoodStmts

goes_all : (all : List StmtsB) → star.most (map (λ b. b.2) (map (λ y. y.0) all)) ≤ 255 → Goes (count.total (map (λ b. b.1) (map (λ y. y.0) all))) (walk_all (map (λ b. b.0) (map (λ y. y.0) all)))
goes_all [] le = goes_stay 0
goes_all (x ∷ more) le = goes_then x.0.1 _ x.0.0 _ (x.1 (omega arith)) (goes_all more (omega arith))

goes_declared : (d : Decl) (init : Option Init) (place : Place) → star.decl_stars d ≤ 255 → star.maybe_init init ≤ 255 → Goes (count.decl_nodes d + (count.maybe_init init + 1)) (local d init place)
goes_declared d init place le few = goes_and_then (count.decl_nodes d) (count.maybe_init init + 1) (local_declared d) (λ kind. maybe_fills init f.Local kind then local_judged init kind place) (goes_local d le)
    (λ kind. goes_then (count.maybe_init init) 1 (maybe_fills init f.Local kind) (local_judged init kind place) (goes_maybe_fills init few f.Local kind) (λ m top state at g. goes_node 1 place _ m top state at g))

goes_if : (test : Expr) (a other : Walk) (n k : ℕ) (place : Place) → star.expr_stars test ≤ 255 → Goes n a → Goes k other → Goes (count.expr_nodes test + (n + (k + 1))) (if_walk test a other place)
goes_if test a other n k place le h j m top state at g =
    goes_then (count.expr_nodes test) (n + (k + 1)) (reads test) _ (goes_reads test le) (goes_then n (k + 1) a _ h (goes_then k 1 other _ j (goes_node 1 place (test_kinds (seen_in state test).typed)))) m top state at g

goes_while : (test : Expr) (body : Walk) (n : ℕ) (place : Place) → star.expr_stars test ≤ 255 → Goes n body → Goes (count.expr_nodes test + (n + 1)) (while_walk test body place)
goes_while test body n place le h m top state at g =
    goes_then (count.expr_nodes test) (n + 1) (reads test) _ (goes_reads test le) (goes_then n 1 (looped body) _ (goes_looped n body h) (goes_node 1 place (test_kinds (seen_in state test).typed))) m top state at g

goes_tested : (test : Expr) (place : Place) → star.expr_stars test ≤ 255 → Goes (count.expr_nodes test + 1) (tested test place)
goes_tested test place le m top state at g = goes_then (count.expr_nodes test) 1 (reads test) _ (goes_reads test le) (goes_node 1 place (test_kinds (seen_in state test).typed)) m top state at g

goes_for : (test next : Option Expr) (body : Walk) (n : ℕ) (place : Place) → star.maybe_expr test ≤ 255 → star.maybe_expr next ≤ 255 → Goes n body → Goes (count.maybe_expr test + (count.maybe_expr next + (n + 1))) (for_rest test next body place)
goes_for test next body n place le few h m top state at g =
    goes_then (count.maybe_expr test) (count.maybe_expr next + (n + 1)) (maybe_reads test) _ (goes_maybe_reads test le) (goes_then (count.maybe_expr next) (n + 1) (maybe_reads next) _ (goes_maybe_reads next few)
    (goes_then n 1 (looped body) _ (goes_looped n body h) (goes_node 1 place (test_kinds (seen_test state test))))) m top state at g

goes_return : (value : Option Expr) (place : Place) → star.maybe_expr value ≤ 255 → Goes (count.maybe_expr value + 1) (return_walk value place)
goes_return value place le m top state at g =
    goes_then (count.maybe_expr value) 1 (maybe_reads value) (return_judged value (seen_test state value) place) (goes_maybe_reads value le) (λ m top state at g. goes_node 1 place _ m top state at g) m top state at g

goes_stmt : (y : StmtKind-F StmtsA StmtsB) → GoodStmtKind (stmt_all (bare_stmts StmtKinds Stmts stmt_all stmt_struct GoodStmtKind GoodStmts y))
goes_stmt (s.Value value) = λ place le. goes_more (count.maybe_expr value) (count.maybe_expr value + 1) (maybe_reads value) (omega arith) (goes_maybe_reads value le)
goes_stmt (s.Local d init) = λ place le. goes_more _ (count.decl_nodes d + count.maybe_init init + 1) (local d init place) (omega arith) (goes_declared d init place (omega arith) (omega arith))
goes_stmt (s.If test a None) = λ place le. goes_more _ (count.expr_nodes test + a.0.1 + 0 + 1) (if_walk test a.0.0 stay place) (omega arith) (goes_if test a.0.0 stay a.0.1 0 place (omega arith) (a.1 (omega arith)) (goes_stay 0))
goes_stmt (s.If test a (Some b)) = λ place le. goes_more _ (count.expr_nodes test + a.0.1 + b.0.1 + 1) (if_walk test a.0.0 b.0.0 place) (omega arith) (goes_if test a.0.0 b.0.0 a.0.1 b.0.1 place (omega arith) (a.1 (omega arith)) (b.1 (omega arith)))
goes_stmt (s.While test body) = λ place le. goes_more _ (count.expr_nodes test + body.0.1 + 1) (while_walk test body.0.0 place) (omega arith) (goes_while test body.0.0 body.0.1 place (omega arith) (body.1 (omega arith)))
goes_stmt (s.DoWhile body test) = λ place le. goes_more _ (body.0.1 + count.expr_nodes test + 1) (looped body.0.0 then tested test place) (omega arith)
    (goes_then body.0.1 (count.expr_nodes test + 1) (looped body.0.0) (tested test place) (goes_looped body.0.1 body.0.0 (body.1 (omega arith))) (goes_tested test place (omega arith)))
goes_stmt (s.For first test next body) = λ place le. goes_more _ (count.maybe_expr first + count.maybe_expr test + count.maybe_expr next + body.0.1 + 1) (maybe_reads first then for_rest test next body.0.0 place) (omega arith)
    (goes_then (count.maybe_expr first) _ (maybe_reads first) (for_rest test next body.0.0 place) (goes_maybe_reads first (omega arith)) (goes_for test next body.0.0 body.0.1 place (omega arith) (omega arith) (body.1 (omega arith))))
goes_stmt s.Break = λ place le m top state at g. goes_node 1 place _ m top state at g
goes_stmt s.Continue = λ place le m top state at g. goes_node 1 place _ m top state at g
goes_stmt (s.Return value) = λ place le. goes_return value place le
goes_stmt (s.Block all) = λ place le. goes_block _ (walk_all (map (λ b. b.0) (map (λ y. y.0) all))) (goes_more (count.total (map (λ b. b.1) (map (λ y. y.0) all))) _ (walk_all (map (λ b. b.0) (map (λ y. y.0) all))) (omega arith) (goes_all all le))

stmt_moved : (r r' : Walk) (n n' s s' : ℕ) → r ≡ r' → n ≡ n' → s ≡ s' → GoodStmt r n s → GoodStmt r' n' s'
stmt_moved r r' n n' s s' a b c h = subst (λ x. GoodStmt x n' s') a (subst (λ x. GoodStmt r x s') b (subst (λ x. GoodStmt r n x) c h))

goes_statement : (x : Stmt) → GoodStmt (statement x) (count.stmt_nodes x) (star.stmt_stars x)
goes_statement x = stmt_moved _ (statement x) _ (count.stmt_nodes x) _ (star.stmt_stars x)
    (stmts_fused StmtKinds Stmts (Place → Walk) Walk stmt_all stmt_struct stmt_step (λ x. x.kind x.place) (λ a. a.0) (λ b. b.0) (λ y. refl) (λ y. refl) x)
    (stmts_fused StmtKinds Stmts ℕ ℕ stmt_all stmt_struct count.stmt_step (λ x. x.kind) (λ a. a.1) (λ b. b.1) (λ y. refl) (λ y. refl) x)
    (stmts_fused StmtKinds Stmts ℕ ℕ stmt_all stmt_struct star.stmt_step (λ x. x.kind) (λ a. a.2) (λ b. b.2) (λ y. refl) (λ y. refl) x)
    (every_stmts StmtKinds Stmts stmt_all stmt_struct GoodStmtKind GoodStmts goes_stmt (λ y. y.kind.1 y.place) x)

pub goes_maybe_statement : (o : Option Stmt) → star.maybe_stmt o ≤ 255 → Goes (count.maybe_stmt o) (maybe_statement o)
goes_maybe_statement None le = goes_stay 0
goes_maybe_statement (Some x) le = goes_statement x le
