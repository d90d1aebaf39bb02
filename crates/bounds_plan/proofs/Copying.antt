-- The scalars of each struct that an elaborated function copies lie inside it.
use Rattle.std.proofs.Common.{ℕ, zero, suc, ◌+◌, List, [], ◌∷◌, ◌++◌, map}
use Rattle.std.specs.Prelude.{Option, None, Some}
use Rattle.mx_base.specs.declared.numbers.IntKind.{IntKind}
use Rattle.mx_base.specs.declared.places.Place.{Place}
use Rattle.mx_base.specs.declared.settings.Flags.{Flags}
use Rattle.mx_base.specs.Numbers.{extended}
use Rattle.c_tree.specs.declared.tree.Tree.{Tree}
use Rattle.c_tree.specs.declared.tree.Item.{Item}
use Rattle.c_tree.specs.declared.tree.ItemKind.{ItemKind}
use Rattle.c_tree.specs.declared.tree.ItemKind.TheVariants as k
use Rattle.c_tree.specs.declared.tree.Expr.{Expr}
use Rattle.mx_base.specs.declared.operators.Arithmetic.{Arithmetic}
use Rattle.c_tree.specs.declared.operators.UnaryOp.{UnaryOp}
use Rattle.c_tree.specs.declared.operators.UnaryOp.TheVariants as u
use Rattle.c_tree.specs.declared.tree.ExprKind.{ExprKind-F}
use Rattle.c_tree.specs.declared.tree.ExprKind.TheOpen as e
use Rattle.c_tree.specs.declared.tree.Init.{Init}
use Rattle.c_tree.specs.declared.tree.InitKind.{InitKind-F}
use Rattle.c_tree.specs.declared.tree.InitKind.TheOpen as i
use Rattle.c_tree.specs.declared.tree.Stmt.{Stmt}
use Rattle.c_tree.specs.declared.tree.StmtKind.{StmtKind-F}
use Rattle.c_tree.specs.declared.tree.StmtKind.TheOpen as s
use Rattle.c_types.specs.Types.{CType, Void, Int, Pointer, Array, Struct, StructType, members_of}
use Rattle.c_types.specs.Layouts.{layout_of, offsets_from}
use Rattle.bounds_plan.specs.meaning.Core.{Word, Null, Scalar, Effect}
use Rattle.bounds_plan.specs.laws.Laws.{AllInside, OfEffect, OfCopies}
use Rattle.bounds_plan.specs.elaboration.Scalars.{scalars_of, scalar_at}
use Rattle.bounds_plan.specs.elaboration.Types.{Value, Numeric, Address, Sort, ANumber, APointer, AWhole, NoValue, sort_of, kind_of, size_in, given}
use Rattle.c_check_rules.specs.declared.predeclared.Bind.{Bind}
use Rattle.c_check_rules.specs.declared.predeclared.Bind.TheVariants.{Global, Local, Fun, Service, Builtin}
use Rattle.bounds_plan.specs.elaboration.Source.{Meanings, SourceLayout, Reached, Signature, Around, kind_at, bind_at, local_number}
use Rattle.bounds_plan.specs.elaboration.Places.{Lvalue, read_as, written_as}
use Rattle.bounds_plan.specs.elaboration.Expressions.{Found, Reading, effect_of, no_place, a_place, named, unary, assigned, assignment_effect, assign_by, step, expression}
use Rattle.bounds_plan.specs.elaboration.Initialisers.{Filling, part_at, zero_as, zero_written, zeros, member_zeros, text_filled, bytes_of, one_filled, elements_filled, members_filled, many_filled, init_step, initialiser}
use Rattle.bounds_plan.specs.elaboration.Statements.{Stating, in_order, done_by, tested_by, maybe, local_of, declared, declarations, return_of, returned_by, all_stated, past_counts, stmt_step, statement_by}
use Rattle.bounds_plan.specs.elaboration.Functions.{Defined, Gone, Body, body_by, with_known, after_item, after_items, at_start, gone_by, elaborated}
use Rattle.bounds_plan.specs.elaboration.Laws.{AllCopyInside}
use Rattle.bounds_plan.proofs.Inside.{scalars_inside}
use Rattle.c_tree.proofs.Inductions.{ExprA, ExprB, bare_exprs, every_exprs, InitA, InitB, bare_inits, every_inits, StmtA, StmtB, bare_stmts, every_stmts}

-- ---- expressions

record Whole (f : Found) : Type 0 where
  is : OfEffect AllInside f.effect

abbrev Copies : Reading → Type 0
Copies read = (around : Around) (r : Reached) → Whole (read around r)

abbrev CopiesAt : (Place → Reading) → Type 0
CopiesAt read = (place : Place) → Copies (read place)

value_copies : (v : Value) → OfEffect AllInside (effect_of v)
value_copies (Numeric e) = tt
value_copies (Address p) = tt

no_place_whole : (type : CType) (v : Value) (place : Place) (after : Reached) → Whole (no_place type v place after)
no_place_whole type v place after = record { is = value_copies v }

a_place_whole : (type : CType) (l : Lvalue) (place : Place) (after : Reached) → Whole (a_place type l place after)
a_place_whole type l place after = record { is = value_copies (read_as (sort_of type) place l) }

named_whole : (around : Around) (type : CType) (m : Bind) (place : Place) (after : Reached) → Whole (named around type m place after)
named_whole around type (Global number) place after = a_place_whole type _ place after
named_whole around type (Local number) place after = a_place_whole type _ place after
named_whole around type (Fun number) place after = no_place_whole type _ place after
named_whole around type (Service service) place after = no_place_whole type _ place after
named_whole around type (Builtin builtin) place after = no_place_whole type _ place after

unary_whole : (op : UnaryOp) (type : CType) (a : Found) (place : Place) (after : Reached) → Whole (unary op type a place after)
unary_whole u.Neg type a place after = no_place_whole type _ place after
unary_whole u.BitNot type a place after = no_place_whole type _ place after
unary_whole u.Not type a place after = no_place_whole type _ place after
unary_whole u.Deref type a place after = a_place_whole type _ place after
unary_whole u.AddressOf type a place after = no_place_whole type _ place after

assignment_copies : (sort : Sort) (structs : List StructType) (a b : Found) → OfEffect AllInside (assignment_effect sort structs a b)
assignment_copies (ANumber kind) structs a b = value_copies (assigned a b)
assignment_copies APointer structs a b = value_copies (assigned a b)
assignment_copies AWhole structs a b = scalars_inside structs a.type
assignment_copies NoValue structs a b = value_copies (assigned a b)

assign_whole : (op : Option Arithmetic) (around : Around) (a b : Found) (place : Place) (after : Reached) → Whole (assign_by op around a b place after)
assign_whole None around a b place after = record { is = assignment_copies (sort_of a.type) around.structs a b }
assign_whole (Some op) around a b place after = no_place_whole a.type _ place after

step_whole : (y : ExprKind-F (ExprA (Place → Reading) Reading step (λ x. x.kind x.place) CopiesAt Copies) (ExprB (Place → Reading) Reading step (λ x. x.kind x.place) CopiesAt Copies))
    → CopiesAt (step (bare_exprs (Place → Reading) Reading step (λ x. x.kind x.place) CopiesAt Copies y))
step_whole (e.Number n kind) place around r = no_place_whole _ _ place _
step_whole (e.Text bytes) place around r = record { is = tt }
step_whole (e.Var name) place around r = named_whole around (kind_at around r) (bind_at around r) place _
step_whole (e.Unary op a) place around r = unary_whole op _ (a.0 around r) place _
step_whole (e.Binary op a c) place around r = no_place_whole _ _ place _
step_whole (e.Assign op a c) place around r = assign_whole op around (a.0 around r) (c.0 around (a.0 around r).after) place _
step_whole (e.StepBy up before a) place around r = no_place_whole _ _ place _
step_whole (e.Cond c a d) place around r = no_place_whole _ _ place _
step_whole (e.Call name all) place around r = no_place_whole _ _ place _
step_whole (e.Index a i) place around r = a_place_whole _ _ place _
step_whole (e.Member a name) place around r = a_place_whole _ _ place _
step_whole (e.Arrow a name) place around r = a_place_whole _ _ place _
step_whole (e.Cast base stars a) place around r = no_place_whole _ _ place _
step_whole (e.SizeOfKind base stars) place around r = no_place_whole _ _ place _
step_whole (e.SizeOfValue a) place around r = no_place_whole _ _ place _

expressions_whole : (x : Expr) → Copies (expression x)
expressions_whole x = every_exprs (Place → Reading) Reading step (λ x. x.kind x.place) CopiesAt Copies step_whole (λ y. y.kind.1 y.place) x

-- ---- initialisers

AllWhole : List Effect → Type 0
AllWhole [] = Unit {0}
AllWhole (x ∷ more) = OfEffect AllInside x × AllWhole more

append_whole : (xs ys : List Effect) → AllWhole xs → AllWhole ys → AllWhole (xs ++ ys)
unfolding AllWhole
append_whole [] ys h k = k
append_whole (x ∷ xs) ys h k = (h.0, append_whole xs ys h.1 k)

abbrev Fill : Filling → Type 0
Fill fill = (around : Around) (type : CType) (l : Lvalue) (offset : ℕ) (r : Reached) → AllWhole (fill around type l offset r).effects

abbrev FillAt : (Place → Filling) → Type 0
FillAt fill = (place : Place) → Fill (fill place)

zero_whole : (o : Option IntKind) (place : Place) (l : Lvalue) → OfEffect AllInside (zero_as o place l)
zero_whole (Some kind) place l = value_copies (written_as (ANumber kind) place l (Numeric (Word 0)))
zero_whole None place l = value_copies (written_as APointer place l (Address Null))

zeros_whole : (scalars : List Scalar) (place : Place) (l : Lvalue) → AllWhole (map (zero_written place l) scalars)
unfolding AllWhole
zeros_whole [] place l = tt
zeros_whole (x ∷ more) place l = (zero_whole x.kind place (part_at x.offset l), zeros_whole more place l)

member_zeros_whole : (structs : List StructType) (place : Place) (types : List CType) (offsets : List ℕ) (l : Lvalue) (offset : ℕ) → AllWhole (member_zeros structs place types offsets l offset)
unfolding AllWhole
member_zeros_whole structs place [] offsets l offset = tt
member_zeros_whole structs place (t ∷ ts) [] l offset = tt
member_zeros_whole structs place (t ∷ ts) (o ∷ os) l offset = append_whole (zeros structs place t l (offset + o)) (member_zeros structs place ts os l offset) (zeros_whole (map (scalar_at (offset + o)) (scalars_of structs t)) place l) (member_zeros_whole structs place ts os l offset)

text_whole : (place : Place) (kind : IntKind) (count : ℕ) (l : Lvalue) (offset step : ℕ) (bytes : List ℕ) → AllWhole (text_filled place kind count l offset step bytes)
unfolding AllWhole
text_whole place kind zero l offset step bytes = tt
text_whole place kind (suc n) l offset step [] = (value_copies (written_as (ANumber kind) place (part_at offset l) (Numeric (Word 0))), text_whole place kind n l (offset + step) step [])
text_whole place kind (suc n) l offset step (b ∷ more) = (value_copies (written_as (ANumber kind) place (part_at offset l) (Numeric (Word (extended kind b)))), text_whole place kind n l (offset + step) step more)

one_whole : (around : Around) (type : CType) (place : Place) (l : Lvalue) (offset : ℕ) (f : Found) → AllWhole (one_filled around type place l offset f)
unfolding AllWhole
one_whole around Void place l offset f = tt
one_whole around (Int kind) place l offset f = (value_copies (written_as (sort_of (Int kind)) place (part_at offset l) (given (Int kind) f.type f.value)), tt)
one_whole around (Pointer target) place l offset f = (value_copies (written_as (sort_of (Pointer target)) place (part_at offset l) (given (Pointer target) f.type f.value)), tt)
one_whole around (Array element count) place l offset f = text_whole place (kind_of element) count l offset (size_in around.structs element) (bytes_of f.text)
one_whole around (Struct number) place l offset f = (scalars_inside around.structs (Struct number), tt)

abbrev Fills : Type 0
Fills = (fill : Filling) × Fill fill

elements_whole : (all : List Fills) (around : Around) (element : CType) (place : Place) (size count : ℕ) (l : Lvalue) (offset : ℕ) (r : Reached) → AllWhole (elements_filled (map (λ y. y.0) all) around element place size count l offset r).effects
unfolding AllWhole
elements_whole [] around element place size count l offset r = zeros_whole (map (scalar_at offset) (scalars_of around.structs (Array element count))) place l
elements_whole (f ∷ more) around element place size zero l offset r = tt
elements_whole (f ∷ more) around element place size (suc n) l offset r = append_whole (f.0 around element l offset r).effects _ (f.1 around element l offset r) (elements_whole more around element place size n l (offset + size) (f.0 around element l offset r).after)

members_whole : (all : List Fills) (around : Around) (place : Place) (types : List CType) (offsets : List ℕ) (l : Lvalue) (offset : ℕ) (r : Reached) → AllWhole (members_filled (map (λ y. y.0) all) around place types offsets l offset r).effects
unfolding AllWhole
members_whole [] around place types offsets l offset r = member_zeros_whole around.structs place types offsets l offset
members_whole (f ∷ more) around place [] offsets l offset r = tt
members_whole (f ∷ more) around place (t ∷ ts) [] l offset r = tt
members_whole (f ∷ more) around place (t ∷ ts) (o ∷ os) l offset r = append_whole (f.0 around t l (offset + o) r).effects _ (f.1 around t l (offset + o) r) (members_whole more around place ts os l offset (f.0 around t l (offset + o) r).after)

many_whole : (all : List Fills) (place : Place) → Fill (many_filled (map (λ y. y.0) all) place)
unfolding AllWhole
many_whole all place around Void l offset r = tt
many_whole all place around (Int kind) l offset r = tt
many_whole all place around (Pointer target) l offset r = tt
many_whole all place around (Array element count) l offset r = elements_whole all around element place (size_in around.structs element) count l offset r
many_whole all place around (Struct number) l offset r = members_whole all around place (members_of around.structs number) (offsets_from 0 (map (layout_of around.structs) (members_of around.structs number))) l offset r

init_whole : (y : InitKind-F (InitA (Place → Filling) Filling (init_step expression) (λ x. x.kind x.place) FillAt Fill) (InitB (Place → Filling) Filling (init_step expression) (λ x. x.kind x.place) FillAt Fill))
    → FillAt (init_step expression (bare_inits (Place → Filling) Filling (init_step expression) (λ x. x.kind x.place) FillAt Fill y))
init_whole (i.One x) place around type l offset r = one_whole around type place l offset (expression x around r)
init_whole (i.Many all) place around type l offset r = many_whole all place around type l offset r

initialisers_whole : (x : Init) → Fill (initialiser expression x)
initialisers_whole x = every_inits (Place → Filling) Filling (init_step expression) (λ x. x.kind x.place) FillAt Fill init_whole (λ y. y.kind.1 y.place) x

-- ---- statements

abbrev State : Stating → Type 0
State state = (around : Around) (r : Reached) → OfCopies AllInside (state around r).statement

in_order_whole : (xs : List Effect) → AllWhole xs → OfCopies AllInside (in_order xs)
unfolding AllWhole
in_order_whole [] h = tt
in_order_whole (x ∷ more) h = (h.0, in_order_whole more h.1)

done_whole : (o : Option Expr) (around : Around) (r : Reached) → OfEffect AllInside (done_by (maybe expression o) around r).effect
done_whole None around r = tt
done_whole (Some x) around r = (expressions_whole x around r).is

declared_whole : (o : Option Init) (around : Around) (r : Reached) → OfCopies AllInside (declared (maybe (initialiser expression) o) around r).statement
declared_whole None around r = tt
declared_whole (Some x) around r = in_order_whole _ (initialisers_whole x around _ (local_of around (local_number (bind_at around r))) 0 _)

return_whole : (v : Value) → OfCopies AllInside (return_of v)
return_whole (Numeric e) = tt
return_whole (Address p) = tt

returned_whole : (o : Option Expr) (around : Around) (r : Reached) → OfCopies AllInside (returned_by (maybe expression o) around r).statement
returned_whole None around r = tt
returned_whole (Some x) around r = return_whole (given around.result (expression x around r).type (expression x around r).value)

all_whole : (all : List ((state : Stating) × State state)) (around : Around) (r : Reached) → OfCopies AllInside (all_stated (map (λ y. y.0) all) around r).statement
all_whole [] around r = tt
all_whole (x ∷ more) around r = (x.1 around r, all_whole more around (x.0 around r).after)

abbrev states : StmtKind-F Stating Stating → Stating
states = stmt_step expression (initialiser expression)

stmt_whole : (y : StmtKind-F (StmtA Stating Stating states (λ x. x.kind) State State) (StmtB Stating Stating states (λ x. x.kind) State State)) → State (states (bare_stmts Stating Stating states (λ x. x.kind) State State y))
stmt_whole (s.Value value) around r = done_whole value around r
stmt_whole (s.Local d init) around r = declared_whole init around (past_counts expression d around r)
stmt_whole (s.If test a None) around r = (a.1 around (expression test around r).after, tt)
stmt_whole (s.If test a (Some b)) around r = let c = expression test around r in (a.1 around c.after, b.1 around (a.0 around c.after).after)
stmt_whole (s.While test body) around r = body.1 around (expression test around r).after
stmt_whole (s.DoWhile body test) around r = body.1 around r
stmt_whole (s.For first test next body) around r = let f = done_by (maybe expression first) around r in let c = tested_by (maybe expression test) around f.after in let n = done_by (maybe expression next) around c.after in
    (done_whole first around r, (done_whole next around c.after, body.1 around n.after))
stmt_whole s.Break around r = tt
stmt_whole s.Continue around r = tt
stmt_whole (s.Return value) around r = returned_whole value around r
stmt_whole (s.Block all) around r = all_whole all around r

statements_whole : (x : Stmt) → State (statement_by expression (initialiser expression) x)
statements_whole x = every_stmts Stating Stating states (λ x. x.kind) State State stmt_whole (λ y. y.kind.1) x

-- ---- the source

append_functions : (fs : List Defined) (d : Defined) → AllCopyInside fs → OfCopies AllInside d.function.body → AllCopyInside (fs ++ (d ∷ []))
append_functions [] d h k = (k, tt)
append_functions (f ∷ fs) d h k = (h.0, append_functions fs d h.1 k)

abbrev bodies : Stmt → Body
bodies = body_by (statement_by expression (initialiser expression)) declarations

known_whole : (o : Option ℕ) (s : Signature) (body : Option Stmt) (gone : Gone) → AllCopyInside gone.functions → AllCopyInside (with_known o s (maybe bodies body) gone).functions
known_whole None s body gone h = h
known_whole (Some number) s None gone h = h
known_whole (Some number) s (Some b) gone h = append_functions gone.functions _ h (statements_whole b _ gone.after)

item_whole : (x : ItemKind) (gone : Gone) → AllCopyInside gone.functions → AllCopyInside (after_item expression (initialiser expression) bodies gone x).functions
item_whole (k.Struct tag members) gone h = h
item_whole (k.Var external d init) gone h = h
item_whole (k.Fun d params body) gone h = known_whole _ _ body _ h

items_whole : (xs : List Item) (gone : Gone) → AllCopyInside gone.functions → AllCopyInside (after_items expression (initialiser expression) bodies gone xs).functions
items_whole [] gone h = h
items_whole (x ∷ xs) gone h = items_whole xs (after_item expression (initialiser expression) bodies gone x.kind) (item_whole x.kind gone h)

pub elaborated_whole : (tree : Tree) (meanings : Meanings) (layout : SourceLayout) (flags : Flags) → AllCopyInside (elaborated tree meanings layout flags)
unfolding gone_by
elaborated_whole tree meanings layout flags = items_whole tree.items (at_start meanings layout flags) tt
