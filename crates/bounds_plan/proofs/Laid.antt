-- The elaboration by folds that compute on closed trees is the elaboration.
use Rattle.std.proofs.Common.{◌≡◌, ap, ◌∙◌, ℕ, List}
use Rattle.mx_base.specs.declared.places.Place.{Place}
use Rattle.mx_base.specs.declared.settings.Flags.{Flags}
use Rattle.c_tree.specs.declared.tree.Tree.{Tree}
use Rattle.c_tree.specs.declared.tree.Expr.{Expr}
use Rattle.c_tree.specs.declared.tree.ExprKind.TheFolds as ef
use Rattle.c_tree.specs.declared.tree.ExprKind.TheBlock as eb
use Rattle.c_tree.specs.declared.tree.Init.{Init}
use Rattle.c_tree.specs.declared.tree.InitKind.TheFolds as nf
use Rattle.c_tree.specs.declared.tree.InitKind.TheBlock as nb
use Rattle.c_tree.specs.declared.tree.Stmt.{Stmt}
use Rattle.c_tree.specs.declared.tree.StmtKind.TheFolds as sf
use Rattle.c_tree.specs.declared.tree.StmtKind.TheBlock as sb
use Rattle.c_tree.proofs.Laid.{exprs_laid, inits_laid, stmts_laid}
use Rattle.bounds_plan.specs.elaboration.Source.{Meanings, SourceLayout}
use Rattle.bounds_plan.specs.elaboration.Expressions.{Reading, step, expression}
use Rattle.bounds_plan.specs.elaboration.Initialisers.{Filling, init_step, initialiser}
use Rattle.bounds_plan.specs.elaboration.Statements.{Stating, stmt_step, statement_by, declares, declarations}
use Rattle.bounds_plan.specs.elaboration.Functions.{Gone, Defined, body_by, gone_by, elaborated}

abbrev pub expression_laid : Expr → Reading
expression_laid = eb.laid-Expr (ef.family (Place → Reading) Reading) (ef.steps (Place → Reading) Reading step (λ x. x.kind x.place))

abbrev pub initialiser_laid : (Expr → Reading) → Init → Filling
initialiser_laid read = nb.laid-Init (nf.family (Place → Filling) Filling) (nf.steps (Place → Filling) Filling (init_step read) (λ x. x.kind x.place))

abbrev pub statement_laid : (Expr → Reading) → (Init → Filling) → Stmt → Stating
statement_laid read fill = sb.laid-Stmt (sf.family Stating Stating) (sf.steps Stating Stating (stmt_step read fill) (λ x. x.kind))

abbrev pub declarations_laid : Stmt → ℕ
declarations_laid = sb.laid-Stmt (sf.family ℕ ℕ) (sf.steps ℕ ℕ declares (λ x. x.kind))

abbrev pub gone_laid : Tree → Meanings → SourceLayout → Flags → Gone
gone_laid = gone_by expression_laid (initialiser_laid expression_laid) (body_by (statement_laid expression_laid (initialiser_laid expression_laid)) declarations_laid)

expressions_same : expression ≡ expression_laid
expressions_same = λ i t. exprs_laid (Place → Reading) Reading step (λ x. x.kind x.place) t i

initialisers_same : (read : Expr → Reading) → initialiser read ≡ initialiser_laid read
initialisers_same read = λ i t. inits_laid (Place → Filling) Filling (init_step read) (λ x. x.kind x.place) t i

statements_same : (read : Expr → Reading) (fill : Init → Filling) → statement_by read fill ≡ statement_laid read fill
statements_same read fill = λ i t. stmts_laid Stating Stating (stmt_step read fill) (λ x. x.kind) t i

fills_same : initialiser expression ≡ initialiser_laid expression_laid
fills_same = ap initialiser expressions_same ∙ initialisers_same expression_laid

states_same : statement_by expression (initialiser expression) ≡ statement_laid expression_laid (initialiser_laid expression_laid)
states_same = (λ i. statement_by (expressions_same i) (fills_same i)) ∙ statements_same expression_laid (initialiser_laid expression_laid)

declarations_same : declarations ≡ declarations_laid
declarations_same = λ i t. stmts_laid ℕ ℕ declares (λ x. x.kind) t i

abbrev pub elaborated_laid : Tree → Meanings → SourceLayout → Flags → List Defined
elaborated_laid tree meanings layout flags = (gone_laid tree meanings layout flags).functions

pub elaborations_same : elaborated ≡ elaborated_laid
elaborations_same = λ i tree meanings layout flags. (gone_by (expressions_same i) (fills_same i) (body_by (states_same i) (declarations_same i)) tree meanings layout flags).functions
