-- The same of initialisers, statements and bodies.
use Rattle.std.proofs.Common.{ℕ, zero, suc, ◌+◌, List, [], ◌∷◌, ◌++◌, map}
use Rattle.std.specs.Prelude.{Option, None, Some}
use Rattle.mx_base.specs.declared.numbers.IntKind.{IntKind}
use Rattle.mx_base.specs.declared.places.Place.{Place}
use Rattle.mx_base.specs.Numbers.{extended}
use Rattle.c_tree.specs.declared.tree.Expr.{Expr}
use Rattle.c_tree.specs.declared.tree.Init.{Init}
use Rattle.c_tree.specs.declared.tree.InitKind.{InitKind-F}
use Rattle.c_tree.specs.declared.tree.InitKind.TheOpen as i
use Rattle.c_tree.specs.declared.tree.Stmt.{Stmt}
use Rattle.c_tree.specs.declared.tree.StmtKind.{StmtKind-F}
use Rattle.c_tree.specs.declared.tree.StmtKind.TheOpen as s
use Rattle.c_types.specs.Types.{CType, Void, Int, Pointer, Array, Struct, StructType, members_of}
use Rattle.c_types.specs.Layouts.{layout_of, offsets_from}
use Rattle.bounds_plan.specs.meaning.Core.{Word, Null, Scalar, Effect}
use Rattle.bounds_plan.specs.laws.Roots.{Names, NamesEffect, NamesStatement}
use Rattle.bounds_plan.specs.elaboration.Scalars.{scalars_of, scalar_at}
use Rattle.bounds_plan.specs.elaboration.Types.{Value, Numeric, Address, number_in, Sort, ANumber, APointer, sort_of, kind_of, size_in, given}
use Rattle.bounds_plan.specs.elaboration.Source.{Reached, Around, bind_at, local_number}
use Rattle.bounds_plan.specs.elaboration.Places.{Lvalue, NumberVariable, PointerVariable, InMemory, written_as}
use Rattle.bounds_plan.specs.elaboration.Expressions.{Found, effect_of, expression}
use Rattle.bounds_plan.specs.elaboration.Initialisers.{Filling, part_at, zero_as, zero_written, zeros, member_zeros, text_filled, scalar_filled, bytes_of, one_filled, elements_filled, members_filled, many_filled, init_step, initialiser}
use Rattle.bounds_plan.specs.elaboration.Statements.{Stating, in_order, done_by, tested_by, maybe, local_of, declared, return_of, returned_by, all_stated, past_counts, stmt_step, statement_by}
use Rattle.bounds_plan.proofs.Naming.{NamesValue, NamesPlace, NamesFound, Ready, effect_names, given_names, written_names, copied_names, expressions_name}
use Rattle.c_tree.proofs.Inductions.{InitA, InitB, bare_inits, every_inits, StmtA, StmtB, bare_stmts, every_stmts}

module _ (S : ℕ → ℕ → ℕ → Type 0) (F : ℕ → ℕ → Type 0) (P : ℕ → Type 0) where
  pub AllNameEffects : List Effect → Type 0
  AllNameEffects [] = Unit {0}
  AllNameEffects (x ∷ more) = NamesEffect S F P x × AllNameEffects more

  append_names : (xs ys : List Effect) → AllNameEffects xs → AllNameEffects ys → AllNameEffects (xs ++ ys)
  unfolding AllNameEffects
  append_names [] ys h k = k
  append_names (x ∷ xs) ys h k = (h.0, append_names xs ys h.1 k)

  abbrev pub GoodFill : Filling → Type 0
  GoodFill fill = (around : Around) → Ready S F P around → (type : CType) (l : Lvalue) → NamesPlace S F P l → (offset : ℕ) (r : Reached) → AllNameEffects (fill around type l offset r).effects

  abbrev GoodFillAt : (Place → Filling) → Type 0
  GoodFillAt fill = (place : Place) → GoodFill (fill place)

  part_names : (n : ℕ) (l : Lvalue) → NamesPlace S F P l → NamesPlace S F P (part_at n l)
  part_names zero l h = h
  part_names (suc n) (NumberVariable x) h = h
  part_names (suc n) (PointerVariable x) h = h
  part_names (suc n) (InMemory p) h = h

  write_names : (sort : Sort) (place : Place) (l : Lvalue) (v : Value) → NamesPlace S F P l → NamesValue S F P v → NamesEffect S F P (effect_of (written_as sort place l v))
  write_names sort place l v h k = effect_names S F P (written_as sort place l v) (written_names S F P sort place l v h k)

  zero_names : (k : Option IntKind) (place : Place) (l : Lvalue) → NamesPlace S F P l → NamesEffect S F P (zero_as k place l)
  zero_names (Some kind) place l h = write_names (ANumber kind) place l (Numeric (Word 0)) h tt
  zero_names None place l h = write_names APointer place l (Address Null) h tt

  zeros_name : (scalars : List Scalar) (place : Place) (l : Lvalue) → NamesPlace S F P l → AllNameEffects (map (zero_written place l) scalars)
  unfolding AllNameEffects
  zeros_name [] place l h = tt
  zeros_name (x ∷ more) place l h = (zero_names x.kind place (part_at x.offset l) (part_names x.offset l h), zeros_name more place l h)

  member_zeros_name : (structs : List StructType) (place : Place) (types : List CType) (offsets : List ℕ) (l : Lvalue) (offset : ℕ) → NamesPlace S F P l → AllNameEffects (member_zeros structs place types offsets l offset)
  unfolding AllNameEffects
  member_zeros_name structs place [] offsets l offset h = tt
  member_zeros_name structs place (t ∷ ts) [] l offset h = tt
  member_zeros_name structs place (t ∷ ts) (o ∷ os) l offset h = append_names (zeros structs place t l (offset + o)) (member_zeros structs place ts os l offset)
      (zeros_name (map (scalar_at (offset + o)) (scalars_of structs t)) place l h) (member_zeros_name structs place ts os l offset h)

  text_names : (place : Place) (kind : IntKind) (count : ℕ) (l : Lvalue) (offset step : ℕ) (bytes : List ℕ) → NamesPlace S F P l → AllNameEffects (text_filled place kind count l offset step bytes)
  unfolding AllNameEffects
  text_names place kind zero l offset step bytes h = tt
  text_names place kind (suc n) l offset step [] h = (write_names (ANumber kind) place (part_at offset l) (Numeric (Word 0)) (part_names offset l h) tt, text_names place kind n l (offset + step) step [] h)
  text_names place kind (suc n) l offset step (b ∷ more) h = (write_names (ANumber kind) place (part_at offset l) (Numeric (Word (extended kind b))) (part_names offset l h) tt, text_names place kind n l (offset + step) step more h)

  scalar_names : (type : CType) (place : Place) (l : Lvalue) (offset : ℕ) (f : Found) → NamesPlace S F P l → NamesFound S F P f → AllNameEffects (scalar_filled type place l offset f)
  unfolding AllNameEffects
  scalar_names type place l offset f h k = (write_names (sort_of type) place (part_at offset l) (given type f.type f.value) (part_names offset l h) (given_names S F P type f.type f.value k.value), tt)

  one_names : (around : Around) (type : CType) (place : Place) (l : Lvalue) (offset : ℕ) (f : Found) → NamesPlace S F P l → NamesFound S F P f → AllNameEffects (one_filled around type place l offset f)
  unfolding AllNameEffects
  one_names around Void place l offset f h k = tt
  one_names around (Int kind) place l offset f h k = scalar_names (Int kind) place l offset f h k
  one_names around (Pointer target) place l offset f h k = scalar_names (Pointer target) place l offset f h k
  one_names around (Array element count) place l offset f h k = text_names place (kind_of element) count l offset (size_in around.structs element) (bytes_of f.text) h
  one_names around (Struct number) place l offset f h k = (copied_names S F P around.structs (Struct number) (part_at offset l) place f (part_names offset l h) k, tt)

  abbrev Fills : Type 0
  Fills = (fill : Filling) × GoodFill fill

  elements_name : (all : List Fills) (around : Around) → Ready S F P around → (element : CType) (place : Place) (size count : ℕ) (l : Lvalue) → NamesPlace S F P l → (offset : ℕ) (r : Reached) → AllNameEffects (elements_filled (map (λ y. y.0) all) around element place size count l offset r).effects
  unfolding AllNameEffects
  elements_name [] around ready element place size count l h offset r = zeros_name (map (scalar_at offset) (scalars_of around.structs (Array element count))) place l h
  elements_name (f ∷ more) around ready element place size zero l h offset r = tt
  elements_name (f ∷ more) around ready element place size (suc n) l h offset r = append_names (f.0 around element l offset r).effects _ (f.1 around ready element l h offset r)
      (elements_name more around ready element place size n l h (offset + size) (f.0 around element l offset r).after)

  members_name : (all : List Fills) (around : Around) → Ready S F P around → (place : Place) (types : List CType) (offsets : List ℕ) (l : Lvalue) → NamesPlace S F P l → (offset : ℕ) (r : Reached) → AllNameEffects (members_filled (map (λ y. y.0) all) around place types offsets l offset r).effects
  unfolding AllNameEffects
  members_name [] around ready place types offsets l h offset r = member_zeros_name around.structs place types offsets l offset h
  members_name (f ∷ more) around ready place [] offsets l h offset r = tt
  members_name (f ∷ more) around ready place (t ∷ ts) [] l h offset r = tt
  members_name (f ∷ more) around ready place (t ∷ ts) (o ∷ os) l h offset r = append_names (f.0 around t l (offset + o) r).effects _ (f.1 around ready t l h (offset + o) r)
      (members_name more around ready place ts os l h offset (f.0 around t l (offset + o) r).after)

  many_name : (all : List Fills) (place : Place) → GoodFill (many_filled (map (λ y. y.0) all) place)
  unfolding AllNameEffects
  many_name all place around ready Void l h offset r = tt
  many_name all place around ready (Int kind) l h offset r = tt
  many_name all place around ready (Pointer target) l h offset r = tt
  many_name all place around ready (Array element count) l h offset r = elements_name all around ready element place (size_in around.structs element) count l h offset r
  many_name all place around ready (Struct number) l h offset r = members_name all around ready place (members_of around.structs number) (offsets_from 0 (map (layout_of around.structs) (members_of around.structs number))) l h offset r

  init_names : (y : InitKind-F (InitA (Place → Filling) Filling (init_step expression) (λ x. x.kind x.place) GoodFillAt GoodFill) (InitB (Place → Filling) Filling (init_step expression) (λ x. x.kind x.place) GoodFillAt GoodFill))
      → GoodFillAt (init_step expression (bare_inits (Place → Filling) Filling (init_step expression) (λ x. x.kind x.place) GoodFillAt GoodFill y))
  init_names (i.One x) place around ready type l h offset r = one_names around type place l offset (expression x around r) h (expressions_name S F P x around ready r)
  init_names (i.Many all) place around ready type l h offset r = many_name all place around ready type l h offset r

  pub initialisers_name : (x : Init) → GoodFill (initialiser expression x)
  initialisers_name x = every_inits (Place → Filling) Filling (init_step expression) (λ x. x.kind x.place) GoodFillAt GoodFill init_names (λ y. y.kind.1 y.place) x

  -- ---- statements

  abbrev pub GoodState : Stating → Type 0
  GoodState state = (around : Around) → Ready S F P around → (r : Reached) → NamesStatement S F P (state around r).statement

  in_order_names : (xs : List Effect) → AllNameEffects xs → NamesStatement S F P (in_order xs)
  unfolding AllNameEffects
  in_order_names [] h = tt
  in_order_names (x ∷ more) h = (h.0, in_order_names more h.1)

  done_names : (o : Option Expr) (around : Around) → Ready S F P around → (r : Reached) → NamesEffect S F P (done_by (maybe expression o) around r).effect
  done_names None around ready r = tt
  done_names (Some x) around ready r = (expressions_name S F P x around ready r).effect

  number_of_names : (v : Value) → NamesValue S F P v → Names S F P (number_in v)
  number_of_names (Numeric e) h = h
  number_of_names (Address p) h = h

  condition_names : (x : Expr) (around : Around) → Ready S F P around → (r : Reached) → Names S F P (number_in (expression x around r).value)
  condition_names x around ready r = number_of_names (expression x around r).value (expressions_name S F P x around ready r).value

  tested_names : (o : Option Expr) (around : Around) → Ready S F P around → (r : Reached) → Names S F P (tested_by (maybe expression o) around r).test
  tested_names None around ready r = tt
  tested_names (Some x) around ready r = condition_names x around ready r

  local_names : (around : Around) → Ready S F P around → (o : Option ℕ) → NamesPlace S F P (local_of around o)
  local_names around ready None = tt
  local_names around ready (Some number) = ready.variables number

  declared_names : (o : Option Init) (around : Around) → Ready S F P around → (r : Reached) → NamesStatement S F P (declared (maybe (initialiser expression) o) around r).statement
  declared_names None around ready r = tt
  declared_names (Some x) around ready r = in_order_names _ (initialisers_name x around ready _ (local_of around (local_number (bind_at around r))) (local_names around ready (local_number (bind_at around r))) 0 _)

  return_names : (v : Value) → NamesValue S F P v → NamesStatement S F P (return_of v)
  return_names (Numeric e) h = h
  return_names (Address p) h = h

  returned_names : (o : Option Expr) (around : Around) → Ready S F P around → (r : Reached) → NamesStatement S F P (returned_by (maybe expression o) around r).statement
  returned_names None around ready r = tt
  returned_names (Some x) around ready r = return_names (given around.result (expression x around r).type (expression x around r).value) (given_names S F P around.result (expression x around r).type (expression x around r).value (expressions_name S F P x around ready r).value)

  all_name : (all : List ((state : Stating) × GoodState state)) (around : Around) → Ready S F P around → (r : Reached) → NamesStatement S F P (all_stated (map (λ y. y.0) all) around r).statement
  all_name [] around ready r = tt
  all_name (x ∷ more) around ready r = (x.1 around ready r, all_name more around ready (x.0 around r).after)

  abbrev states : StmtKind-F Stating Stating → Stating
  states = stmt_step expression (initialiser expression)

  abbrev StateA : Type 0
  StateA = StmtA Stating Stating states (λ x. x.kind) GoodState GoodState

  abbrev StateB : Type 0
  StateB = StmtB Stating Stating states (λ x. x.kind) GoodState GoodState

  stmt_names : (y : StmtKind-F StateA StateB) → GoodState (states (bare_stmts Stating Stating states (λ x. x.kind) GoodState GoodState y))
  stmt_names (s.Value value) around ready r = done_names value around ready r
  stmt_names (s.Local d init) around ready r = declared_names init around ready (past_counts expression d around r)
  stmt_names (s.If test a None) around ready r = let c = expression test around r in (condition_names test around ready r, a.1 around ready c.after, tt)
  stmt_names (s.If test a (Some b)) around ready r = let c = expression test around r in let x = a.0 around c.after in (condition_names test around ready r, a.1 around ready c.after, b.1 around ready x.after)
  stmt_names (s.While test body) around ready r = (condition_names test around ready r, body.1 around ready (expression test around r).after)
  stmt_names (s.DoWhile body test) around ready r = (body.1 around ready r, condition_names test around ready (body.0 around r).after)
  stmt_names (s.For first test next body) around ready r = let f = done_by (maybe expression first) around r in let c = tested_by (maybe expression test) around f.after in let n = done_by (maybe expression next) around c.after in
      (done_names first around ready r, (tested_names test around ready f.after, done_names next around ready c.after, body.1 around ready n.after))
  stmt_names s.Break around ready r = tt
  stmt_names s.Continue around ready r = tt
  stmt_names (s.Return value) around ready r = returned_names value around ready r
  stmt_names (s.Block all) around ready r = all_name all around ready r

  pub statements_name : (x : Stmt) → GoodState (statement_by expression (initialiser expression) x)
  statements_name x = every_stmts Stating Stating states (λ x. x.kind) GoodState GoodState stmt_names (λ y. y.kind.1) x
