-- What expressions do. Operands are evaluated from left to right.
use Rattle.std.specs.Prelude.{ℕ, zero, suc, ◌+◌, ◌*◌, ◌-◌, ◌%◌, Bool, false, if◌then◌else◌, Option, None, Some, List, [], ◌∷◌}
use Rattle.mx_base.specs.declared.services.CService.{CService}
use Rattle.mx_base.specs.declared.services.CService.TheVariants as in_c
use Rattle.mx_base.specs.declared.limits.Bounds.{Bounds as BoundsPair}
use Rattle.mx_base.specs.declared.numbers.IntKind.{IntKind}
use Rattle.mx_base.specs.Numbers.{extended}
use Rattle.mx_base.specs.declared.operators.Arithmetic.{Arithmetic}
use Rattle.mx_base.specs.Operators.{word_arithmetic, word_compares}
use Rattle.mx_base.specs.Bounds.{addresses, met, moved, bounds_at}
use Rattle.mx_base.specs.Access.{Refusal}
use Rattle.mx_base.specs.Services.{Served, Answers, Exits, Overflows, Refused}
use Rattle.mx_base.specs.StopOfC.{StopOfC, Exit, Divide, StackOver}
use Rattle.mx_base.specs.World.{World, Log, NullConstant, FromInteger as WasInteger, FunctionAddress, NullBlock, InitBuiltin}
use Rattle.narrowing.specs.Member.{bounds_by}
use Rattle.fat_ir.specs.Step.{Located, ObjectAt, FunctionAt, stop_by, served_in_c}
use Rattle.bounds_plan.specs.meaning.Core.{NumberExpr, Word, Variable, Assign, Operate, Compare, Convert, AsNumber, Load, Store, Update, UpdateAt, And, Or, Choose, Call, Serve, Ask, PointerExpr, Null, FromInteger, Function, Object, InFrame, VariablePtr, AssignPtr, Member, Element, ElementAfter, LoadPtr, StorePtr, Advance, AdvanceAt, ChoosePtr, CallPtr, Alloc, SetBounds, NarrowBounds, CopyBounds, InitBounds, BoundOf, Arguments, NoMore, WithNumber, WithPointer}
use Rattle.bounds_plan.specs.meaning.State.{Pointer, Passed, OfNumber, OfPointer, Done, Stopped, M, ◌>>=◌, ◌>>◌, pure, stop, making, full_by, made_before, variable, set_variable, variable_ptr, set_variable_ptr}
use Rattle.bounds_plan.specs.meaning.Accesses.{load, store, load_ptr, store_ptr}

-- ---- calls

-- how the call of a function ends
pub data Answer : Type 0 where
  Comes : (value : Passed) → (w : World) → (log : Log) → Answer
  Stops : (why : StopOfC) → (w : World) → (log : Log) → Answer

-- the meaning of functions, by some numbering of them
abbrev pub CalleeOfC : Type 0
CalleeOfC = ℕ → List Passed → World → Log → Answer

-- what the symbols of a unit mean
pub record Names : Type 0 where
  pub call : CalleeOfC
  pub located : ℕ → Located

abbrev pub answered_with : Answer → M Passed
answered_with (Comes v w log) = λ s. Done v record s { world = w; log = log }
answered_with (Stops why w log) = λ s. Stopped why record s { world = w; log = log }

abbrev pub calling : Names → ℕ → List Passed → M Passed
calling names symbol args = λ s. answered_with (names.call symbol args s.world s.log) s

abbrev pub number_passed : Passed → ℕ
number_passed (OfNumber n) = n
number_passed (OfPointer p) = p.address

abbrev pub pointer_passed : Passed → M Pointer
pointer_passed (OfNumber n) = full_by WasInteger n
pointer_passed (OfPointer p) = pure p

-- ---- services

abbrev pub served_with : Served Refusal → M ℕ
served_with (Answers word g) = λ s. Done word record s { world = record s.world { guest = g } }
served_with (Exits code) = stop (Exit code)
served_with Overflows = stop StackOver
served_with (Refused why) = stop (stop_by why)

abbrev pub serving : CService → (word : ℕ) → M ℕ
serving service word = λ s. served_with (served_in_c service word s.world) s

-- the pointer to a new block: null with full bounds, or its bytes
abbrev pub block : (size address : ℕ) → M Pointer
block size zero = full_by NullBlock 0
block size (suc a) = making (suc a) (bounds_at (suc a) size)

-- ---- numbers and pointers

abbrev pub choose : {A : Type 0} → ℕ → M A → M A → M A
choose zero a b = b
choose (suc n) a b = a

abbrev pub truth : ℕ → ℕ
truth zero = 0
truth (suc n) = 1

abbrev pub divided : Option ℕ → M ℕ
divided None = stop Divide
divided (Some n) = pure n

abbrev pub operate : Arithmetic → IntKind → ℕ → ℕ → M ℕ
operate op kind a b = divided (word_arithmetic op kind a b)

-- the address so many elements further, or before where an index is taken away, modulo 2^64
unfoldable pub stepped : (minus : Bool) → (size address index : ℕ) → ℕ
stepped minus size address index = if minus then (address + (addresses - index * size % addresses)) % addresses else (address + index * size) % addresses

abbrev pub with_address : ℕ → Pointer → Pointer
with_address a p = record { address = a; rooted = p.rooted }

abbrev pub with_bounds : BoundsPair → Pointer → Pointer
with_bounds b p = record { address = p.address; rooted = record { bounds = b; root = p.rooted.root } }

abbrev pub step : (minus : Bool) → (size : ℕ) → Pointer → ℕ → Pointer
step minus size p i = with_address (stepped minus size p.address i) p

-- what an assignment gives that also has the value before
abbrev pub either : {A : Type 0} → (old : Bool) → A → A → A
either old before after = if old then before else after

-- the address of a variable or literal has the bounds of its bytes, and that of a function full bounds
abbrev pub object : Located → (offset size : ℕ) → M Pointer
object (ObjectAt a) offset size = made_before (moved a offset) (bounds_at (moved a offset) size)
object (FunctionAt a) offset size = full_by FunctionAddress (moved a offset)

abbrev pub in_frame : (offset size : ℕ) → M Pointer
in_frame offset size = λ s. made_before (moved s.world.data_sp offset) (bounds_at (moved s.world.data_sp offset) size) s

abbrev pub member : (offset : ℕ) → Pointer → BoundsPair → Pointer
member offset p b = with_address (moved p.address offset) (with_bounds b p)

-- ---- the value of an expression
abbrev mutual
  pub number : Names → NumberExpr → M ℕ
  number names (Word n) = pure n
  number names (Variable x) = variable x
  number names (Assign x e) = do
    n ← number names e
    set_variable x n
    pure n
  number names (Operate op kind a b) = do
    x ← number names a
    y ← number names b
    operate op kind x y
  number names (Compare op kind a b) = do
    x ← number names a
    y ← number names b
    pure (word_compares op kind x y)
  number names (Convert kind e) = do
    n ← number names e
    pure (extended kind n)
  number names (AsNumber p) = do
    a ← pointer names p
    pure a.address
  number names (Load kind place p) = do
    a ← pointer names p
    load kind place a
  number names (Store kind place p e) = do
    a ← pointer names p
    n ← number names e
    store kind place a n
    pure n
  number names (Update x kind op common e old) = do
    n ← number names e
    before ← variable x
    after ← operate op common before n
    set_variable x (extended kind after)
    pure (either old before (extended kind after))
  number names (UpdateAt kind place p op common e old) = do
    a ← pointer names p
    n ← number names e
    before ← load kind place a
    after ← operate op common before n
    store kind place a (extended kind after)
    pure (either old before (extended kind after))
  number names (And a b) = do
    x ← number names a
    choose x (number names b >>= (λ y. pure (truth y))) (pure 0)
  number names (Or a b) = do
    x ← number names a
    choose x (pure 1) (number names b >>= (λ y. pure (truth y)))
  number names (Choose test a b) = do
    x ← number names test
    choose x (number names a) (number names b)
  number names (Call symbol args) = do
    vs ← arguments names args
    v ← calling names symbol vs
    pure (number_passed v)
  number names (Serve service e) = do
    word ← number names e
    serving service word
  number names (Ask service) = serving service 0

  pub pointer : Names → PointerExpr → M Pointer
  pointer names Null = full_by NullConstant 0
  pointer names (FromInteger e) = do
    n ← number names e
    full_by WasInteger n
  pointer names (Function symbol) = object (names.located symbol) 0 1
  pointer names (Object symbol offset size) = object (names.located symbol) offset size
  pointer names (InFrame offset size) = in_frame offset size
  pointer names (VariablePtr x) = variable_ptr x
  pointer names (AssignPtr x e) = do
    p ← pointer names e
    set_variable_ptr x p
    pure p
  pointer names (Member offset rule e) = do
    p ← pointer names e
    pure (member offset p (bounds_by rule p.address p.rooted.bounds))
  pointer names (Element minus size e i) = do
    p ← pointer names e
    n ← number names i
    pure (step minus size p n)
  pointer names (ElementAfter size i e) = do
    n ← number names i
    p ← pointer names e
    pure (step false size p n)
  pointer names (LoadPtr place e) = do
    p ← pointer names e
    load_ptr place p
  pointer names (StorePtr place to e) = do
    p ← pointer names to
    v ← pointer names e
    store_ptr place p v
    pure v
  pointer names (Advance x minus size i old) = do
    n ← number names i
    before ← variable_ptr x
    set_variable_ptr x (step minus size before n)
    pure (either old before (step minus size before n))
  pointer names (AdvanceAt place e minus size i old) = do
    p ← pointer names e
    n ← number names i
    before ← load_ptr place p
    store_ptr place p (step minus size before n)
    pure (either old before (step minus size before n))
  pointer names (ChoosePtr test a b) = do
    x ← number names test
    choose x (pointer names a) (pointer names b)
  pointer names (CallPtr symbol args) = do
    vs ← arguments names args
    v ← calling names symbol vs
    pointer_passed v
  pointer names (Alloc e) = do
    n ← number names e
    a ← serving in_c.Alloc n
    block n a
  pointer names (SetBounds e n) = do
    q ← pointer names e
    size ← number names n
    making q.address (bounds_at q.address size)
  pointer names (NarrowBounds e f n) = do
    p ← pointer names e
    q ← pointer names f
    size ← number names n
    pure record { address = p.address; rooted = record { bounds = met q.rooted.bounds (bounds_at p.address size); root = q.rooted.root } }
  pointer names (CopyBounds e f) = do
    q ← pointer names e
    r ← pointer names f
    pure record { address = q.address; rooted = r.rooted }
  pointer names (InitBounds e) = do
    q ← pointer names e
    full_by InitBuiltin q.address
  pointer names (BoundOf upper e) = do
    q ← pointer names e
    pure (with_address (if upper then q.rooted.bounds.ub else q.rooted.bounds.lb) q)

  pub arguments : Names → Arguments → M (List Passed)
  arguments names NoMore = pure []
  arguments names (WithNumber e rest) = do
    n ← number names e
    vs ← arguments names rest
    pure (OfNumber n ∷ vs)
  arguments names (WithPointer e rest) = do
    p ← pointer names e
    vs ← arguments names rest
    pure (OfPointer p ∷ vs)
