-- Inside of a function no body is counted by the elaboration.
use Rattle.std.proofs.Common.{◌≡◌, ℕ, zero, suc, ◌+◌, refl, ap, ◌∙◌, List, [], ◌∷◌, map}
use Rattle.std.specs.Prelude.{Option, None, Some}
use Rattle.mx_base.specs.declared.places.Place.{Place}
use Rattle.mx_base.specs.declared.operators.Arithmetic.{Arithmetic}
use Rattle.c_tree.specs.declared.tree.Decl.{Decl}
use Rattle.c_tree.specs.declared.tree.Expr.{Expr}
use Rattle.c_tree.specs.declared.tree.ExprKind.{ExprKind-F}
use Rattle.c_tree.specs.declared.tree.ExprKind.TheOpen as e
use Rattle.c_tree.specs.declared.tree.Init.{Init}
use Rattle.c_tree.specs.declared.tree.InitKind.{InitKind-F}
use Rattle.c_tree.specs.declared.tree.InitKind.TheOpen as i
use Rattle.c_tree.specs.declared.tree.Stmt.{Stmt}
use Rattle.c_tree.specs.declared.tree.StmtKind.{StmtKind-F}
use Rattle.c_tree.specs.declared.tree.StmtKind.TheOpen as s
use Rattle.c_tree.proofs.Inductions.{ExprA, ExprB, bare_exprs, every_exprs, InitA, InitB, bare_inits, every_inits, StmtA, StmtB, bare_stmts, every_stmts}
use Rattle.c_types.specs.Types.{CType, Void, Int, Pointer, Array, Struct, members_of}
use Rattle.c_types.specs.Layouts.{layout_of, offsets_from}
use Rattle.bounds_plan.specs.elaboration.Types.{size_in}
use Rattle.bounds_plan.specs.elaboration.Source.{Reached, Around, kind_at, bind_at, declared_at, past_name, past_kind, past_declaration, local_number}
use Rattle.bounds_plan.specs.elaboration.Places.{Lvalue}
use Rattle.bounds_plan.specs.elaboration.Expressions.{Found, Reading, assign_by, find_all, step, expression}
use Rattle.bounds_plan.specs.elaboration.Initialisers.{Filling, after_one, elements_filled, members_filled, many_filled, init_step, initialiser}
use Rattle.bounds_plan.specs.elaboration.Statements.{Stating, done_by, tested_by, maybe, past_counts, local_of, declared, returned_by, all_stated, stmt_step, statement_by}
use Rattle.bounds_plan.specs.elaboration.Functions.{declared_all}
use Rattle.c_accepted.proofs.Gives.{named_gives, unary_gives}

-- ---- expressions

abbrev Same : Reading → Type 0
Same read = (around : Around) (r : Reached) → (read around r).after.body ≡ r.body

abbrev SameAt : (Place → Reading) → Type 0
SameAt read = (place : Place) → Same (read place)

assign_after : (op : Option Arithmetic) (around : Around) (a b : Found) (place : Place) (after : Reached) → (assign_by op around a b place after).after ≡ after
assign_after None around a b place after = refl
assign_after (Some op) around a b place after = refl

abbrev Reads : Type 0
Reads = (read : Reading) × Same read

all_same : (all : List Reads) (around : Around) (r : Reached) → (find_all (map (λ y. y.0) all) around r).after.body ≡ r.body
all_same [] around r = refl
all_same (a ∷ more) around r = all_same more around (a.0 around r).after ∙ a.1 around r

step_same : (y : ExprKind-F (ExprA (Place → Reading) Reading step (λ x. x.kind x.place) SameAt Same) (ExprB (Place → Reading) Reading step (λ x. x.kind x.place) SameAt Same))
    → SameAt (step (bare_exprs (Place → Reading) Reading step (λ x. x.kind x.place) SameAt Same y))
step_same (e.Number n kind) place around r = refl
step_same (e.Text bytes) place around r = refl
step_same (e.Var name) place around r = ap (λ (x : Reached). x.body) (named_gives around (kind_at around r) (bind_at around r) place (past_name (past_kind r))).after_is
step_same (e.Unary op a) place around r = ap (λ (x : Reached). x.body) (unary_gives around.structs op (kind_at around (a.0 around r).after) (a.0 around r) place (past_kind (a.0 around r).after)).after_is ∙ a.1 around r
step_same (e.Binary op a c) place around r = c.1 around (a.0 around r).after ∙ a.1 around r
step_same (e.Assign op a c) place around r = ap (λ (x : Reached). x.body) (assign_after op around (a.0 around r) (c.0 around (a.0 around r).after) place (past_kind (c.0 around (a.0 around r).after).after)) ∙ (c.1 around (a.0 around r).after ∙ a.1 around r)
step_same (e.StepBy up before a) place around r = a.1 around r
step_same (e.Cond c a d) place around r = d.1 around (a.0 around (c.0 around r).after).after ∙ (a.1 around (c.0 around r).after ∙ c.1 around r)
step_same (e.Call name all) place around r = all_same all around r
step_same (e.Index a i) place around r = i.1 around (a.0 around r).after ∙ a.1 around r
step_same (e.Member a name) place around r = a.1 around r
step_same (e.Arrow a name) place around r = a.1 around r
step_same (e.Cast base stars a) place around r = a.1 around r
step_same (e.SizeOfKind base stars) place around r = refl
step_same (e.SizeOfValue a) place around r = a.1 around r

expressions_same : (x : Expr) → Same (expression x)
expressions_same x = every_exprs (Place → Reading) Reading step (λ x. x.kind x.place) SameAt Same step_same (λ y. y.kind.1 y.place) x

counts_same : (all : List Expr) (around : Around) (r : Reached) → (find_all (map expression all) around r).after.body ≡ r.body
counts_same [] around r = refl
counts_same (x ∷ more) around r = counts_same more around (expression x around r).after ∙ expressions_same x around r

pub past_same : (d : Decl) (around : Around) (r : Reached) → (past_counts expression d around r).body ≡ r.body
past_same d around r = counts_same d.counts around r

pub declared_same : (past : Reached → Reached) → ((r : Reached) → (past r).body ≡ r.body) → (all : List Decl) (around : Around) (r : Reached) → (declared_all expression past all around r).after.body ≡ r.body
declared_same past h [] around r = refl
declared_same past h (d ∷ more) around r = declared_same past h more around (past (past_counts expression d around r)) ∙ (h (past_counts expression d around r) ∙ past_same d around r)

-- ---- initialisers

abbrev Fill : Filling → Type 0
Fill fill = (around : Around) (type : CType) (l : Lvalue) (offset : ℕ) (r : Reached) → (fill around type l offset r).after.body ≡ r.body

abbrev FillAt : (Place → Filling) → Type 0
FillAt fill = (place : Place) → Fill (fill place)

one_same : (type : CType) (before after : Reached) → after.body ≡ before.body → (after_one type before after).body ≡ before.body
one_same Void before after h = h
one_same (Int kind) before after h = h
one_same (Pointer target) before after h = h
one_same (Array element count) before after h = h
one_same (Struct number) before after h = h

abbrev Fills : Type 0
Fills = (fill : Filling) × Fill fill

elements_same : (all : List Fills) (around : Around) (element : CType) (place : Place) (size count : ℕ) (l : Lvalue) (offset : ℕ) (r : Reached) → (elements_filled (map (λ y. y.0) all) around element place size count l offset r).after.body ≡ r.body
elements_same [] around element place size count l offset r = refl
elements_same (f ∷ more) around element place size zero l offset r = refl
elements_same (f ∷ more) around element place size (suc n) l offset r = elements_same more around element place size n l (offset + size) (f.0 around element l offset r).after ∙ f.1 around element l offset r

members_same : (all : List Fills) (around : Around) (place : Place) (types : List CType) (offsets : List ℕ) (l : Lvalue) (offset : ℕ) (r : Reached) → (members_filled (map (λ y. y.0) all) around place types offsets l offset r).after.body ≡ r.body
members_same [] around place types offsets l offset r = refl
members_same (f ∷ more) around place [] offsets l offset r = refl
members_same (f ∷ more) around place (t ∷ ts) [] l offset r = refl
members_same (f ∷ more) around place (t ∷ ts) (o ∷ os) l offset r = members_same more around place ts os l offset (f.0 around t l (offset + o) r).after ∙ f.1 around t l (offset + o) r

many_same : (all : List Fills) (place : Place) → Fill (many_filled (map (λ y. y.0) all) place)
many_same all place around Void l offset r = refl
many_same all place around (Int kind) l offset r = refl
many_same all place around (Pointer target) l offset r = refl
many_same all place around (Array element count) l offset r = elements_same all around element place (size_in around.structs element) count l offset r
many_same all place around (Struct number) l offset r = members_same all around place (members_of around.structs number) (offsets_from 0 (map (layout_of around.structs) (members_of around.structs number))) l offset r

init_same : (y : InitKind-F (InitA (Place → Filling) Filling (init_step expression) (λ x. x.kind x.place) FillAt Fill) (InitB (Place → Filling) Filling (init_step expression) (λ x. x.kind x.place) FillAt Fill))
    → FillAt (init_step expression (bare_inits (Place → Filling) Filling (init_step expression) (λ x. x.kind x.place) FillAt Fill y))
init_same (i.One x) place around type l offset r = one_same type r (expression x around r).after (expressions_same x around r)
init_same (i.Many all) place around type l offset r = many_same all place around type l offset r

pub initialisers_same : (x : Init) → Fill (initialiser expression x)
initialisers_same x = every_inits (Place → Filling) Filling (init_step expression) (λ x. x.kind x.place) FillAt Fill init_same (λ y. y.kind.1 y.place) x

-- ---- statements

abbrev State : Stating → Type 0
State state = (around : Around) (r : Reached) → (state around r).after.body ≡ r.body

done_same : (o : Option Expr) (around : Around) (r : Reached) → (done_by (maybe expression o) around r).after.body ≡ r.body
done_same None around r = refl
done_same (Some x) around r = expressions_same x around r

tested_same : (o : Option Expr) (around : Around) (r : Reached) → (tested_by (maybe expression o) around r).after.body ≡ r.body
tested_same None around r = refl
tested_same (Some x) around r = expressions_same x around r

returned_same : (o : Option Expr) (around : Around) (r : Reached) → (returned_by (maybe expression o) around r).after.body ≡ r.body
returned_same None around r = refl
returned_same (Some x) around r = expressions_same x around r

local_same : (o : Option Init) (around : Around) (r : Reached) → (declared (maybe (initialiser expression) o) around r).after.body ≡ r.body
local_same None around r = refl
local_same (Some x) around r = initialisers_same x around (declared_at around r) (local_of around (local_number (bind_at around r))) 0 (past_declaration r)

abbrev StatesSame : Type 0
StatesSame = (state : Stating) × State state

block_same : (all : List StatesSame) (around : Around) (r : Reached) → (all_stated (map (λ y. y.0) all) around r).after.body ≡ r.body
block_same [] around r = refl
block_same (x ∷ more) around r = block_same more around (x.0 around r).after ∙ x.1 around r

abbrev states : StmtKind-F Stating Stating → Stating
states = stmt_step expression (initialiser expression)

stmt_same : (y : StmtKind-F (StmtA Stating Stating states (λ x. x.kind) State State) (StmtB Stating Stating states (λ x. x.kind) State State)) → State (states (bare_stmts Stating Stating states (λ x. x.kind) State State y))
stmt_same (s.Value value) around r = done_same value around r
stmt_same (s.Local d init) around r = local_same init around (past_counts expression d around r) ∙ past_same d around r
stmt_same (s.If test a None) around r = a.1 around (expression test around r).after ∙ expressions_same test around r
stmt_same (s.If test a (Some b)) around r = let c = expression test around r in b.1 around (a.0 around c.after).after ∙ (a.1 around c.after ∙ expressions_same test around r)
stmt_same (s.While test body) around r = body.1 around (expression test around r).after ∙ expressions_same test around r
stmt_same (s.DoWhile body test) around r = expressions_same test around (body.0 around r).after ∙ body.1 around r
stmt_same (s.For first test next body) around r = let f = done_by (maybe expression first) around r in let c = tested_by (maybe expression test) around f.after in let n = done_by (maybe expression next) around c.after in
    body.1 around n.after ∙ (done_same next around c.after ∙ (tested_same test around f.after ∙ done_same first around r))
stmt_same s.Break around r = refl
stmt_same s.Continue around r = refl
stmt_same (s.Return value) around r = returned_same value around r
stmt_same (s.Block all) around r = block_same all around r

pub statements_same : (x : Stmt) → State (statement_by expression (initialiser expression) x)
statements_same x = every_stmts Stating Stating states (λ x. x.kind) State State stmt_same (λ y. y.kind.1) x
