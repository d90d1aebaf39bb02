-- The same of initialisers, statements and bodies, which need at most eight pairs of temporaries more than values wait in them.
use Rattle.std.proofs.Common.{◌≡◌, ℕ, zero, suc, ◌+◌, ◌≤◌, refl, List, [], ◌∷◌, ◌++◌, map, subst, arith}
use Rattle.std.specs.Prelude.{Option, None, Some}
use Rattle.mx_base.specs.declared.numbers.IntKind.{IntKind}
use Rattle.mx_base.specs.declared.places.Place.{Place}
use Rattle.mx_base.specs.Numbers.{extended}
use Rattle.c_tree.specs.declared.tree.Expr.{Expr}
use Rattle.c_tree.specs.declared.tree.Init.{Init, Init-F, fold-Init}
use Rattle.c_tree.specs.declared.tree.InitKind.{InitKind-F}
use Rattle.c_tree.specs.declared.tree.InitKind.TheFolds as nf
use Rattle.c_tree.specs.declared.tree.InitKind.TheOpen as i
use Rattle.c_tree.specs.declared.tree.Stmt.{Stmt, Stmt-F, fold-Stmt}
use Rattle.c_tree.specs.declared.tree.StmtKind.{StmtKind-F}
use Rattle.c_tree.specs.declared.tree.StmtKind.TheFolds as sf
use Rattle.c_tree.specs.declared.tree.StmtKind.TheOpen as s
use Rattle.c_types.specs.Types.{CType, Void, Int, Pointer, Array, Struct, StructType, members_of}
use Rattle.c_types.specs.Layouts.{layout_of, offsets_from}
use Rattle.bounds_plan.specs.meaning.Core.{Word, Null, Scalar, Effect}
use Rattle.bounds_plan.specs.steps.Sorts.{pairs, pairs_effect, pairs_of}
use Rattle.bounds_plan.specs.elaboration.Scalars.{scalars_of, scalar_at}
use Rattle.bounds_plan.specs.elaboration.Types.{Value, Numeric, Address, number_in, Sort, ANumber, APointer, sort_of, kind_of, size_in, given}
use Rattle.bounds_plan.specs.elaboration.Source.{Reached, Around, bind_at, local_number}
use Rattle.bounds_plan.specs.elaboration.Places.{Lvalue, NumberVariable, PointerVariable, InMemory, written_as}
use Rattle.bounds_plan.specs.elaboration.Expressions.{Found, effect_of, expression}
use Rattle.bounds_plan.specs.elaboration.Initialisers.{Filling, part_at, zero_as, zero_written, zeros, member_zeros, text_filled, scalar_filled, bytes_of, one_filled, elements_filled, members_filled, many_filled, init_step, initialiser}
use Rattle.bounds_plan.specs.elaboration.Statements.{Stating, in_order, done_by, tested_by, maybe, local_of, declared, return_of, returned_by, all_stated, past_counts, stmt_step, statement_by}
use Rattle.bounds_plan.specs.elaboration.Waits.{most, waits, maybe_waits, init_waits, waits_init, maybe_waits_init, stmt_waits, waits_stmt}
use Rattle.bounds_plan.proofs.Waiting.{pairs_value, pairs_place, number_short, effect_short, given_short, written_short, copied_short, variables_short, Short, Few, expressions_short}
use Rattle.c_tree.proofs.Inductions.{InitA, InitB, bare_inits, every_inits, inits_fused, StmtA, StmtB, bare_stmts, every_stmts, stmts_fused}

pub AllBelow : (n : ℕ) → List Effect → Type 0
AllBelow n [] = Unit {0}
AllBelow n (x ∷ more) = (pairs_effect x ≤ n) × AllBelow n more

append_below : (n : ℕ) (xs ys : List Effect) → AllBelow n xs → AllBelow n ys → AllBelow n (xs ++ ys)
unfolding AllBelow
append_below n [] ys h k = k
append_below n (x ∷ xs) ys h k = (h.0, append_below n xs ys h.1 k)

more_below : (n m : ℕ) (xs : List Effect) → n ≤ m → AllBelow n xs → AllBelow m xs
unfolding AllBelow
more_below n m [] le h = tt
more_below n m (x ∷ xs) le h = let a = h.0 in (omega arith, more_below n m xs le h.1)

-- an initialiser in which so many values wait, of a variable
abbrev pub BriefFill : Filling × ℕ → Type 0
BriefFill b = (around : Around) → Few around → (type : CType) (l : Lvalue) → pairs_place l ≤ 1 → (offset : ℕ) (r : Reached) → AllBelow (b.1 + 8) (b.0 around type l offset r).effects

abbrev BriefFillAt : (Place → Filling) × ℕ → Type 0
BriefFillAt a = (place : Place) → BriefFill (a.0 place, a.1)

part_short : (n : ℕ) (l : Lvalue) → pairs_place l ≤ 1 → pairs_place (part_at n l) ≤ 3
part_short zero l h = omega arith
part_short (suc n) (NumberVariable x) h = omega arith
part_short (suc n) (PointerVariable x) h = omega arith
part_short (suc n) (InMemory p) h = omega arith

write_short : (w : ℕ) (sort : Sort) (place : Place) (l : Lvalue) (v : Value) → pairs_place l ≤ 3 → pairs_value v ≤ w + 7 → pairs_effect (effect_of (written_as sort place l v)) ≤ w + 8
write_short w sort place l v h k = effect_short (w + 8) (written_as sort place l v) (omega (arith, written_short (w + 7) sort place l v (omega arith) (omega arith) k))

zero_short : (w : ℕ) (o : Option IntKind) (place : Place) (l : Lvalue) → pairs_place l ≤ 3 → pairs_effect (zero_as o place l) ≤ w + 8
zero_short w (Some kind) place l h = write_short w (ANumber kind) place l (Numeric (Word 0)) h (omega arith)
zero_short w None place l h = write_short w APointer place l (Address Null) h (omega arith)

zeros_short : (w : ℕ) (scalars : List Scalar) (place : Place) (l : Lvalue) → pairs_place l ≤ 1 → AllBelow (w + 8) (map (zero_written place l) scalars)
unfolding AllBelow
zeros_short w [] place l h = tt
zeros_short w (x ∷ more) place l h = (zero_short w x.kind place (part_at x.offset l) (part_short x.offset l h), zeros_short w more place l h)

member_zeros_short : (w : ℕ) (structs : List StructType) (place : Place) (types : List CType) (offsets : List ℕ) (l : Lvalue) (offset : ℕ) → pairs_place l ≤ 1 → AllBelow (w + 8) (member_zeros structs place types offsets l offset)
unfolding AllBelow
member_zeros_short w structs place [] offsets l offset h = tt
member_zeros_short w structs place (t ∷ ts) [] l offset h = tt
member_zeros_short w structs place (t ∷ ts) (o ∷ os) l offset h = append_below (w + 8) (zeros structs place t l (offset + o)) (member_zeros structs place ts os l offset)
    (zeros_short w (map (scalar_at (offset + o)) (scalars_of structs t)) place l h) (member_zeros_short w structs place ts os l offset h)

text_short : (w : ℕ) (place : Place) (kind : IntKind) (count : ℕ) (l : Lvalue) (offset step : ℕ) (bytes : List ℕ) → pairs_place l ≤ 1 → AllBelow (w + 8) (text_filled place kind count l offset step bytes)
unfolding AllBelow
text_short w place kind zero l offset step bytes h = tt
text_short w place kind (suc n) l offset step [] h = (write_short w (ANumber kind) place (part_at offset l) (Numeric (Word 0)) (part_short offset l h) (omega arith), text_short w place kind n l (offset + step) step [] h)
text_short w place kind (suc n) l offset step (b ∷ more) h = (write_short w (ANumber kind) place (part_at offset l) (Numeric (Word (extended kind b))) (part_short offset l h) (omega arith), text_short w place kind n l (offset + step) step more h)

scalar_short : (w : ℕ) (type : CType) (place : Place) (l : Lvalue) (offset : ℕ) (f : Found) → pairs_place l ≤ 1 → Short w f → AllBelow (w + 8) (scalar_filled type place l offset f)
unfolding AllBelow
scalar_short w type place l offset f h k = (write_short w (sort_of type) place (part_at offset l) (given type f.type f.value) (part_short offset l h) (given_short (w + 7) type f.type f.value (omega arith) k.value), tt)

one_short : (w : ℕ) (around : Around) (type : CType) (place : Place) (l : Lvalue) (offset : ℕ) (f : Found) → pairs_place l ≤ 1 → Short w f → AllBelow (w + 8) (one_filled around type place l offset f)
unfolding AllBelow
one_short w around Void place l offset f h k = tt
one_short w around (Int kind) place l offset f h k = scalar_short w (Int kind) place l offset f h k
one_short w around (Pointer target) place l offset f h k = scalar_short w (Pointer target) place l offset f h k
one_short w around (Array element count) place l offset f h k = text_short w place (kind_of element) count l offset (size_in around.structs element) (bytes_of f.text) h
one_short w around (Struct number) place l offset f h k = (omega (arith, copied_short (w + 7) around.structs (Struct number) (part_at offset l) place f (omega arith) (omega (arith, part_short offset l h)) k.lvalue), tt)

abbrev Fills : Type 0
Fills = (b : Filling × ℕ) × BriefFill b

abbrev fillings : List Fills → List Filling
fillings all = map (λ b. b.0) (map (λ y. y.0) all)

abbrev most_of : List Fills → ℕ
most_of all = most (map (λ b. b.1) (map (λ y. y.0) all))

elements_short : (all : List Fills) (w : ℕ) → most_of all ≤ w → (around : Around) → Few around → (element : CType) (place : Place) (size count : ℕ) (l : Lvalue) → pairs_place l ≤ 1 → (offset : ℕ) (r : Reached) → AllBelow (w + 8) (elements_filled (fillings all) around element place size count l offset r).effects
unfolding AllBelow
elements_short [] w le around few element place size count l h offset r = zeros_short w (map (scalar_at offset) (scalars_of around.structs (Array element count))) place l h
elements_short (f ∷ more) w le around few element place size zero l h offset r = tt
elements_short (f ∷ more) w le around few element place size (suc n) l h offset r = append_below (w + 8) (f.0.0 around element l offset r).effects _ (more_below (f.0.1 + 8) (w + 8) _ (omega arith) (f.1 around few element l h offset r))
    (elements_short more w (omega arith) around few element place size n l h (offset + size) (f.0.0 around element l offset r).after)

members_short : (all : List Fills) (w : ℕ) → most_of all ≤ w → (around : Around) → Few around → (place : Place) (types : List CType) (offsets : List ℕ) (l : Lvalue) → pairs_place l ≤ 1 → (offset : ℕ) (r : Reached) → AllBelow (w + 8) (members_filled (fillings all) around place types offsets l offset r).effects
unfolding AllBelow
members_short [] w le around few place types offsets l h offset r = member_zeros_short w around.structs place types offsets l offset h
members_short (f ∷ more) w le around few place [] offsets l h offset r = tt
members_short (f ∷ more) w le around few place (t ∷ ts) [] l h offset r = tt
members_short (f ∷ more) w le around few place (t ∷ ts) (o ∷ os) l h offset r = append_below (w + 8) (f.0.0 around t l (offset + o) r).effects _ (more_below (f.0.1 + 8) (w + 8) _ (omega arith) (f.1 around few t l h (offset + o) r))
    (members_short more w (omega arith) around few place ts os l h offset (f.0.0 around t l (offset + o) r).after)

many_short : (all : List Fills) (place : Place) → BriefFill (many_filled (fillings all) place, most_of all)
unfolding AllBelow
many_short all place around few Void l h offset r = tt
many_short all place around few (Int kind) l h offset r = tt
many_short all place around few (Pointer target) l h offset r = tt
many_short all place around few (Array element count) l h offset r = elements_short all (most_of all) (omega arith) around few element place (size_in around.structs element) count l h offset r
many_short all place around few (Struct number) l h offset r = members_short all (most_of all) (omega arith) around few place (members_of around.structs number) (offsets_from 0 (map (layout_of around.structs) (members_of around.structs number))) l h offset r

abbrev FillA : Type 0
FillA = (Place → Filling) × ℕ

abbrev FillB : Type 0
FillB = Filling × ℕ

abbrev fill_both : InitKind-F FillA FillB → FillA
fill_both y = (init_step expression (nf.map-InitKind FillA FillB (Place → Filling) Filling (λ a. a.0) (λ b. b.0) y), init_waits (nf.map-InitKind FillA FillB ℕ ℕ (λ a. a.1) (λ b. b.1) y))

abbrev fill_struct : Init-F FillA FillB → FillB
fill_struct x = (x.kind.0 x.place, x.kind.1)

init_short : (y : InitKind-F (InitA FillA FillB fill_both fill_struct BriefFillAt BriefFill) (InitB FillA FillB fill_both fill_struct BriefFillAt BriefFill)) → BriefFillAt (fill_both (bare_inits FillA FillB fill_both fill_struct BriefFillAt BriefFill y))
init_short (i.One x) place around few type l h offset r = one_short (waits x) around type place l offset (expression x around r) h (expressions_short x around few r)
init_short (i.Many all) place around few type l h offset r = many_short all place around few type l h offset r

abbrev filled_both : Init → FillB
filled_both = fold-Init FillA FillB fill_both fill_struct

fills_same : (x : Init) → (filled_both x).0 ≡ initialiser expression x
fills_same x = inits_fused FillA FillB (Place → Filling) Filling fill_both fill_struct (init_step expression) (λ x. x.kind x.place) (λ a. a.0) (λ b. b.0) (λ y. refl) (λ y. refl) x

fill_waits_same : (x : Init) → (filled_both x).1 ≡ waits_init x
fill_waits_same x = inits_fused FillA FillB ℕ ℕ fill_both fill_struct init_waits (λ x. x.kind) (λ a. a.1) (λ b. b.1) (λ y. refl) (λ y. refl) x

pub initialisers_short : (x : Init) → BriefFill (initialiser expression x, waits_init x)
initialisers_short x = subst (λ fill. BriefFill (fill, waits_init x)) (fills_same x) (subst (λ w. BriefFill ((filled_both x).0, w)) (fill_waits_same x)
    (every_inits FillA FillB fill_both fill_struct BriefFillAt BriefFill init_short (λ y. y.kind.1 y.place) x))

-- ---- statements

abbrev pub BriefState : Stating × ℕ → Type 0
BriefState b = (around : Around) → Few around → (r : Reached) → pairs_of (b.0 around r).statement ≤ b.1 + 8

in_order_short : (n : ℕ) (xs : List Effect) → AllBelow n xs → pairs_of (in_order xs) ≤ n
unfolding AllBelow
in_order_short n [] h = omega arith
in_order_short n (x ∷ more) h = let a = h.0 in omega (arith, in_order_short n more h.1)

done_short : (o : Option Expr) (around : Around) → Few around → (r : Reached) → pairs_effect (done_by (maybe expression o) around r).effect ≤ maybe_waits o + 8
done_short None around few r = omega arith
done_short (Some x) around few r = omega (arith, (expressions_short x around few r).effect)

condition_short : (x : Expr) (around : Around) → Few around → (r : Reached) → pairs (number_in (expression x around r).value) ≤ waits x + 8
condition_short x around few r = omega (arith, number_short (waits x + 7) (expression x around r).value (expressions_short x around few r).value)

tested_short : (o : Option Expr) (around : Around) → Few around → (r : Reached) → pairs (tested_by (maybe expression o) around r).test ≤ maybe_waits o + 8
tested_short None around few r = omega arith
tested_short (Some x) around few r = condition_short x around few r

local_short : (around : Around) (o : Option ℕ) → pairs_place (local_of around o) ≤ 1
local_short around None = omega arith
local_short around (Some number) = variables_short around.structs around.variables around.stands 0 number

declared_short : (o : Option Init) (around : Around) → Few around → (r : Reached) → pairs_of (declared (maybe (initialiser expression) o) around r).statement ≤ maybe_waits_init o + 8
declared_short None around few r = omega arith
declared_short (Some x) around few r = in_order_short (waits_init x + 8) _ (initialisers_short x around few _ (local_of around (local_number (bind_at around r))) (local_short around (local_number (bind_at around r))) 0 _)

return_short : (n : ℕ) (v : Value) → pairs_value v ≤ n → pairs_of (return_of v) ≤ n
return_short n (Numeric e) h = h
return_short n (Address p) h = h

returned_short : (o : Option Expr) (around : Around) → Few around → (r : Reached) → pairs_of (returned_by (maybe expression o) around r).statement ≤ maybe_waits o + 8
returned_short None around few r = omega arith
returned_short (Some x) around few r = let f = expression x around r in
    return_short (waits x + 8) (given around.result f.type f.value) (omega (arith, given_short (waits x + 7) around.result f.type f.value (omega arith) (expressions_short x around few r).value))

abbrev States : Type 0
States = (b : Stating × ℕ) × BriefState b

all_short : (all : List States) (around : Around) → Few around → (r : Reached) → pairs_of (all_stated (map (λ b. b.0) (map (λ y. y.0) all)) around r).statement ≤ most (map (λ b. b.1) (map (λ y. y.0) all)) + 8
all_short [] around few r = omega arith
all_short (x ∷ more) around few r = omega (arith, x.1 around few r, all_short more around few (x.0.0 around r).after)

abbrev states : StmtKind-F Stating Stating → Stating
states = stmt_step expression (initialiser expression)

abbrev StateB : Type 0
StateB = Stating × ℕ

abbrev state_both : StmtKind-F StateB StateB → StateB
state_both y = (states (sf.map-StmtKind StateB StateB Stating Stating (λ a. a.0) (λ b. b.0) y), stmt_waits (sf.map-StmtKind StateB StateB ℕ ℕ (λ a. a.1) (λ b. b.1) y))

abbrev state_struct : Stmt-F StateB StateB → StateB
state_struct x = x.kind

stmt_short : (y : StmtKind-F (StmtA StateB StateB state_both state_struct BriefState BriefState) (StmtB StateB StateB state_both state_struct BriefState BriefState)) → BriefState (state_both (bare_stmts StateB StateB state_both state_struct BriefState BriefState y))
stmt_short (s.Value value) around few r = done_short value around few r
stmt_short (s.Local d init) around few r = omega (arith, declared_short init around few (past_counts expression d around r))
stmt_short (s.If test a None) around few r = let c = expression test around r in omega (arith, condition_short test around few r, a.1 around few c.after)
stmt_short (s.If test a (Some b)) around few r = let c = expression test around r in let x = a.0.0 around c.after in omega (arith, condition_short test around few r, a.1 around few c.after, b.1 around few x.after)
stmt_short (s.While test body) around few r = omega (arith, condition_short test around few r, body.1 around few (expression test around r).after)
stmt_short (s.DoWhile body test) around few r = omega (arith, body.1 around few r, condition_short test around few (body.0.0 around r).after)
stmt_short (s.For first test next body) around few r = let f = done_by (maybe expression first) around r in let c = tested_by (maybe expression test) around f.after in let n = done_by (maybe expression next) around c.after in
    omega (arith, done_short first around few r, tested_short test around few f.after, done_short next around few c.after, body.1 around few n.after)
stmt_short s.Break around few r = omega arith
stmt_short s.Continue around few r = omega arith
stmt_short (s.Return value) around few r = returned_short value around few r
stmt_short (s.Block all) around few r = all_short all around few r

abbrev stated_both : Stmt → StateB
stated_both = fold-Stmt StateB StateB state_both state_struct

states_same : (x : Stmt) → (stated_both x).0 ≡ statement_by expression (initialiser expression) x
states_same x = stmts_fused StateB StateB Stating Stating state_both state_struct states (λ x. x.kind) (λ a. a.0) (λ b. b.0) (λ y. refl) (λ y. refl) x

state_waits_same : (x : Stmt) → (stated_both x).1 ≡ waits_stmt x
state_waits_same x = stmts_fused StateB StateB ℕ ℕ state_both state_struct stmt_waits (λ x. x.kind) (λ a. a.1) (λ b. b.1) (λ y. refl) (λ y. refl) x

pub statements_short : (x : Stmt) → BriefState (statement_by expression (initialiser expression) x, waits_stmt x)
statements_short x = subst (λ state. BriefState (state, waits_stmt x)) (states_same x) (subst (λ w. BriefState ((stated_both x).0, w)) (state_waits_same x)
    (every_stmts StateB StateB state_both state_struct BriefState BriefState stmt_short (λ y. y.kind.1) x))
