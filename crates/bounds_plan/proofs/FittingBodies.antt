-- The same of initialisers, statements and bodies.
use Rattle.std.proofs.Common.{ℕ, zero, suc, ◌+◌, Bool, List, [], ◌∷◌, ◌++◌, map}
use Rattle.std.specs.Prelude.{Option, None, Some}
use Rattle.mx_base.specs.declared.numbers.IntKind.{IntKind}
use Rattle.mx_base.specs.declared.places.Place.{Place}
use Rattle.mx_base.specs.Numbers.{extended}
use Rattle.c_tree.specs.declared.tree.Expr.{Expr}
use Rattle.c_tree.specs.declared.tree.Init.{Init}
use Rattle.c_tree.specs.declared.tree.InitKind.{InitKind-F}
use Rattle.c_tree.specs.declared.tree.InitKind.TheOpen as i
use Rattle.c_tree.specs.declared.tree.Stmt.{Stmt}
use Rattle.c_tree.specs.declared.tree.StmtKind.{StmtKind-F}
use Rattle.c_tree.specs.declared.tree.StmtKind.TheOpen as s
use Rattle.c_types.specs.Types.{CType, Void, Int, Pointer, Array, Struct, StructType, members_of}
use Rattle.c_types.specs.Layouts.{layout_of, offsets_from}
use Rattle.bounds_plan.specs.meaning.Core.{Word, Null, Scalar, Effect}
use Rattle.bounds_plan.specs.steps.Follows.{Fits, FitsEffect, FitsStatement}
use Rattle.bounds_plan.specs.elaboration.Scalars.{scalars_of, scalar_at}
use Rattle.bounds_plan.specs.elaboration.Types.{Value, Numeric, Address, number_in, Sort, ANumber, APointer, sort_of, kind_of, size_in, given}
use Rattle.bounds_plan.specs.elaboration.Source.{Reached, Around, bind_at, local_number}
use Rattle.bounds_plan.specs.elaboration.Places.{Lvalue, NumberVariable, PointerVariable, InMemory, written_as}
use Rattle.bounds_plan.specs.elaboration.Expressions.{Found, effect_of, expression}
use Rattle.bounds_plan.specs.elaboration.Initialisers.{Filling, part_at, zero_as, zero_written, zeros, member_zeros, text_filled, scalar_filled, bytes_of, one_filled, elements_filled, members_filled, many_filled, init_step, initialiser}
use Rattle.bounds_plan.specs.elaboration.Statements.{Stating, in_order, done_by, tested_by, maybe, local_of, declared, return_of, returned_by, all_stated, past_counts, stmt_step, statement_by}
use Rattle.bounds_plan.proofs.Fitting.{FitsValue, FitsPlace, FitsFound, Ready, effect_fits, given_fits, written_fits, copied_fits, expressions_fit}
use Rattle.c_tree.proofs.Inductions.{InitA, InitB, bare_inits, every_inits, StmtA, StmtB, bare_stmts, every_stmts}

module _ (private : ℕ) (is_bounds : ℕ → Bool) (takes : ℕ → ℕ) where
  pub AllFitEffects : List Effect → Type 0
  AllFitEffects [] = Unit {0}
  AllFitEffects (x ∷ more) = FitsEffect private is_bounds takes x × AllFitEffects more

  append_fits : (xs ys : List Effect) → AllFitEffects xs → AllFitEffects ys → AllFitEffects (xs ++ ys)
  unfolding AllFitEffects
  append_fits [] ys h k = k
  append_fits (x ∷ xs) ys h k = (h.0, append_fits xs ys h.1 k)

  abbrev pub GoodFill : Filling → Type 0
  GoodFill fill = (around : Around) → Ready private is_bounds takes around → (type : CType) (l : Lvalue) → FitsPlace private is_bounds takes l → (offset : ℕ) (r : Reached) → AllFitEffects (fill around type l offset r).effects

  abbrev GoodFillAt : (Place → Filling) → Type 0
  GoodFillAt fill = (place : Place) → GoodFill (fill place)

  part_fits : (n : ℕ) (l : Lvalue) → FitsPlace private is_bounds takes l → FitsPlace private is_bounds takes (part_at n l)
  part_fits zero l h = h
  part_fits (suc n) (NumberVariable x) h = h
  part_fits (suc n) (PointerVariable x) h = h
  part_fits (suc n) (InMemory p) h = h

  write_fits : (sort : Sort) (place : Place) (l : Lvalue) (v : Value) → FitsPlace private is_bounds takes l → FitsValue private is_bounds takes v → FitsEffect private is_bounds takes (effect_of (written_as sort place l v))
  write_fits sort place l v h k = effect_fits private is_bounds takes (written_as sort place l v) (written_fits private is_bounds takes sort place l v h k)

  zero_fits : (k : Option IntKind) (place : Place) (l : Lvalue) → FitsPlace private is_bounds takes l → FitsEffect private is_bounds takes (zero_as k place l)
  zero_fits (Some kind) place l h = write_fits (ANumber kind) place l (Numeric (Word 0)) h tt
  zero_fits None place l h = write_fits APointer place l (Address Null) h tt

  zeros_fit : (scalars : List Scalar) (place : Place) (l : Lvalue) → FitsPlace private is_bounds takes l → AllFitEffects (map (zero_written place l) scalars)
  unfolding AllFitEffects
  zeros_fit [] place l h = tt
  zeros_fit (x ∷ more) place l h = (zero_fits x.kind place (part_at x.offset l) (part_fits x.offset l h), zeros_fit more place l h)

  member_zeros_fit : (structs : List StructType) (place : Place) (types : List CType) (offsets : List ℕ) (l : Lvalue) (offset : ℕ) → FitsPlace private is_bounds takes l → AllFitEffects (member_zeros structs place types offsets l offset)
  unfolding AllFitEffects
  member_zeros_fit structs place [] offsets l offset h = tt
  member_zeros_fit structs place (t ∷ ts) [] l offset h = tt
  member_zeros_fit structs place (t ∷ ts) (o ∷ os) l offset h = append_fits (zeros structs place t l (offset + o)) (member_zeros structs place ts os l offset)
      (zeros_fit (map (scalar_at (offset + o)) (scalars_of structs t)) place l h) (member_zeros_fit structs place ts os l offset h)

  text_fits : (place : Place) (kind : IntKind) (count : ℕ) (l : Lvalue) (offset step : ℕ) (bytes : List ℕ) → FitsPlace private is_bounds takes l → AllFitEffects (text_filled place kind count l offset step bytes)
  unfolding AllFitEffects
  text_fits place kind zero l offset step bytes h = tt
  text_fits place kind (suc n) l offset step [] h = (write_fits (ANumber kind) place (part_at offset l) (Numeric (Word 0)) (part_fits offset l h) tt, text_fits place kind n l (offset + step) step [] h)
  text_fits place kind (suc n) l offset step (b ∷ more) h = (write_fits (ANumber kind) place (part_at offset l) (Numeric (Word (extended kind b))) (part_fits offset l h) tt, text_fits place kind n l (offset + step) step more h)

  scalar_fits : (type : CType) (place : Place) (l : Lvalue) (offset : ℕ) (f : Found) → FitsPlace private is_bounds takes l → FitsFound private is_bounds takes f → AllFitEffects (scalar_filled type place l offset f)
  unfolding AllFitEffects
  scalar_fits type place l offset f h k = (write_fits (sort_of type) place (part_at offset l) (given type f.type f.value) (part_fits offset l h) (given_fits private is_bounds takes type f.type f.value k.value), tt)

  one_fits : (around : Around) (type : CType) (place : Place) (l : Lvalue) (offset : ℕ) (f : Found) → FitsPlace private is_bounds takes l → FitsFound private is_bounds takes f → AllFitEffects (one_filled around type place l offset f)
  unfolding AllFitEffects
  one_fits around Void place l offset f h k = tt
  one_fits around (Int kind) place l offset f h k = scalar_fits (Int kind) place l offset f h k
  one_fits around (Pointer target) place l offset f h k = scalar_fits (Pointer target) place l offset f h k
  one_fits around (Array element count) place l offset f h k = text_fits place (kind_of element) count l offset (size_in around.structs element) (bytes_of f.text) h
  one_fits around (Struct number) place l offset f h k = (copied_fits private is_bounds takes around.structs (Struct number) (part_at offset l) place f (part_fits offset l h) k, tt)

  abbrev Fills : Type 0
  Fills = (fill : Filling) × GoodFill fill

  elements_fit : (all : List Fills) (around : Around) → Ready private is_bounds takes around → (element : CType) (place : Place) (size count : ℕ) (l : Lvalue) → FitsPlace private is_bounds takes l → (offset : ℕ) (r : Reached) → AllFitEffects (elements_filled (map (λ y. y.0) all) around element place size count l offset r).effects
  unfolding AllFitEffects
  elements_fit [] around ready element place size count l h offset r = zeros_fit (map (scalar_at offset) (scalars_of around.structs (Array element count))) place l h
  elements_fit (f ∷ more) around ready element place size zero l h offset r = tt
  elements_fit (f ∷ more) around ready element place size (suc n) l h offset r = append_fits (f.0 around element l offset r).effects _ (f.1 around ready element l h offset r)
      (elements_fit more around ready element place size n l h (offset + size) (f.0 around element l offset r).after)

  members_fit : (all : List Fills) (around : Around) → Ready private is_bounds takes around → (place : Place) (types : List CType) (offsets : List ℕ) (l : Lvalue) → FitsPlace private is_bounds takes l → (offset : ℕ) (r : Reached) → AllFitEffects (members_filled (map (λ y. y.0) all) around place types offsets l offset r).effects
  unfolding AllFitEffects
  members_fit [] around ready place types offsets l h offset r = member_zeros_fit around.structs place types offsets l offset h
  members_fit (f ∷ more) around ready place [] offsets l h offset r = tt
  members_fit (f ∷ more) around ready place (t ∷ ts) [] l h offset r = tt
  members_fit (f ∷ more) around ready place (t ∷ ts) (o ∷ os) l h offset r = append_fits (f.0 around t l (offset + o) r).effects _ (f.1 around ready t l h (offset + o) r)
      (members_fit more around ready place ts os l h offset (f.0 around t l (offset + o) r).after)

  many_fit : (all : List Fills) (place : Place) → GoodFill (many_filled (map (λ y. y.0) all) place)
  unfolding AllFitEffects
  many_fit all place around ready Void l h offset r = tt
  many_fit all place around ready (Int kind) l h offset r = tt
  many_fit all place around ready (Pointer target) l h offset r = tt
  many_fit all place around ready (Array element count) l h offset r = elements_fit all around ready element place (size_in around.structs element) count l h offset r
  many_fit all place around ready (Struct number) l h offset r = members_fit all around ready place (members_of around.structs number) (offsets_from 0 (map (layout_of around.structs) (members_of around.structs number))) l h offset r

  init_fits : (y : InitKind-F (InitA (Place → Filling) Filling (init_step expression) (λ x. x.kind x.place) GoodFillAt GoodFill) (InitB (Place → Filling) Filling (init_step expression) (λ x. x.kind x.place) GoodFillAt GoodFill))
      → GoodFillAt (init_step expression (bare_inits (Place → Filling) Filling (init_step expression) (λ x. x.kind x.place) GoodFillAt GoodFill y))
  init_fits (i.One x) place around ready type l h offset r = one_fits around type place l offset (expression x around r) h (expressions_fit private is_bounds takes x around ready r)
  init_fits (i.Many all) place around ready type l h offset r = many_fit all place around ready type l h offset r

  pub initialisers_fit : (x : Init) → GoodFill (initialiser expression x)
  initialisers_fit x = every_inits (Place → Filling) Filling (init_step expression) (λ x. x.kind x.place) GoodFillAt GoodFill init_fits (λ y. y.kind.1 y.place) x

  -- ---- statements

  abbrev pub GoodState : Stating → Type 0
  GoodState state = (around : Around) → Ready private is_bounds takes around → (r : Reached) → FitsStatement private is_bounds takes (state around r).statement

  in_order_fits : (xs : List Effect) → AllFitEffects xs → FitsStatement private is_bounds takes (in_order xs)
  unfolding AllFitEffects
  in_order_fits [] h = tt
  in_order_fits (x ∷ more) h = (h.0, in_order_fits more h.1)

  done_fits : (o : Option Expr) (around : Around) → Ready private is_bounds takes around → (r : Reached) → FitsEffect private is_bounds takes (done_by (maybe expression o) around r).effect
  done_fits None around ready r = tt
  done_fits (Some x) around ready r = (expressions_fit private is_bounds takes x around ready r).effect

  number_of_fits : (v : Value) → FitsValue private is_bounds takes v → Fits private is_bounds takes (number_in v)
  number_of_fits (Numeric e) h = h
  number_of_fits (Address p) h = h

  condition_fits : (x : Expr) (around : Around) → Ready private is_bounds takes around → (r : Reached) → Fits private is_bounds takes (number_in (expression x around r).value)
  condition_fits x around ready r = number_of_fits (expression x around r).value (expressions_fit private is_bounds takes x around ready r).value

  tested_fits : (o : Option Expr) (around : Around) → Ready private is_bounds takes around → (r : Reached) → Fits private is_bounds takes (tested_by (maybe expression o) around r).test
  tested_fits None around ready r = tt
  tested_fits (Some x) around ready r = condition_fits x around ready r

  local_fits : (around : Around) → Ready private is_bounds takes around → (o : Option ℕ) → FitsPlace private is_bounds takes (local_of around o)
  local_fits around ready None = tt
  local_fits around ready (Some number) = ready.variables number

  declared_fits : (o : Option Init) (around : Around) → Ready private is_bounds takes around → (r : Reached) → FitsStatement private is_bounds takes (declared (maybe (initialiser expression) o) around r).statement
  declared_fits None around ready r = tt
  declared_fits (Some x) around ready r = in_order_fits _ (initialisers_fit x around ready _ (local_of around (local_number (bind_at around r))) (local_fits around ready (local_number (bind_at around r))) 0 _)

  return_fits : (v : Value) → FitsValue private is_bounds takes v → FitsStatement private is_bounds takes (return_of v)
  return_fits (Numeric e) h = h
  return_fits (Address p) h = h

  returned_fits : (o : Option Expr) (around : Around) → Ready private is_bounds takes around → (r : Reached) → FitsStatement private is_bounds takes (returned_by (maybe expression o) around r).statement
  returned_fits None around ready r = tt
  returned_fits (Some x) around ready r = return_fits (given around.result (expression x around r).type (expression x around r).value) (given_fits private is_bounds takes around.result (expression x around r).type (expression x around r).value (expressions_fit private is_bounds takes x around ready r).value)

  all_fit : (all : List ((state : Stating) × GoodState state)) (around : Around) → Ready private is_bounds takes around → (r : Reached) → FitsStatement private is_bounds takes (all_stated (map (λ y. y.0) all) around r).statement
  all_fit [] around ready r = tt
  all_fit (x ∷ more) around ready r = (x.1 around ready r, all_fit more around ready (x.0 around r).after)

  abbrev states : StmtKind-F Stating Stating → Stating
  states = stmt_step expression (initialiser expression)

  abbrev StateA : Type 0
  StateA = StmtA Stating Stating states (λ x. x.kind) GoodState GoodState

  abbrev StateB : Type 0
  StateB = StmtB Stating Stating states (λ x. x.kind) GoodState GoodState

  stmt_fits : (y : StmtKind-F StateA StateB) → GoodState (states (bare_stmts Stating Stating states (λ x. x.kind) GoodState GoodState y))
  stmt_fits (s.Value value) around ready r = done_fits value around ready r
  stmt_fits (s.Local d init) around ready r = declared_fits init around ready (past_counts expression d around r)
  stmt_fits (s.If test a None) around ready r = let c = expression test around r in (condition_fits test around ready r, a.1 around ready c.after, tt)
  stmt_fits (s.If test a (Some b)) around ready r = let c = expression test around r in let x = a.0 around c.after in (condition_fits test around ready r, a.1 around ready c.after, b.1 around ready x.after)
  stmt_fits (s.While test body) around ready r = (condition_fits test around ready r, body.1 around ready (expression test around r).after)
  stmt_fits (s.DoWhile body test) around ready r = (body.1 around ready r, condition_fits test around ready (body.0 around r).after)
  stmt_fits (s.For first test next body) around ready r = let f = done_by (maybe expression first) around r in let c = tested_by (maybe expression test) around f.after in let n = done_by (maybe expression next) around c.after in
      (done_fits first around ready r, (tested_fits test around ready f.after, done_fits next around ready c.after, body.1 around ready n.after))
  stmt_fits s.Break around ready r = tt
  stmt_fits s.Continue around ready r = tt
  stmt_fits (s.Return value) around ready r = returned_fits value around ready r
  stmt_fits (s.Block all) around ready r = all_fit all around ready r

  pub statements_fit : (x : Stmt) → GoodState (statement_by expression (initialiser expression) x)
  statements_fit x = every_stmts Stating Stating states (λ x. x.kind) GoodState GoodState stmt_fits (λ y. y.kind.1) x
