-- The core tree of C: every conversion, load, address, bound and size is a node of its own, a name is a private variable or a symbol, and
-- each expression is known to give a number or a pointer.
use Rattle.std.specs.Prelude.{ℕ, Bool, Option, List}
use Rattle.mx_base.specs.declared.services.CService.{CService}
use Rattle.mx_base.specs.declared.numbers.IntKind.{IntKind}
use Rattle.mx_base.specs.declared.places.Place.{Place}
use Rattle.mx_base.specs.declared.operators.Arithmetic.{Arithmetic}
use Rattle.mx_base.specs.declared.operators.Comparison.{Comparison}
use Rattle.narrowing.specs.declared.member.Rule.{Rule}

-- a private variable is named by its value in the numbering of fat steps: a pointer's number, which its bounds follow. A `place` is where an
-- access stands in the sources. `minus` says that an index is taken away and not added; `old` that the value is the one before.
mutual
  -- an expression whose value is a number
  pub data NumberExpr : Type 0 where
    -- a constant, by its word
    Word : (n : ℕ) → NumberExpr
    -- a private variable, and its assignment
    Variable : (x : ℕ) → NumberExpr
    Assign : (x : ℕ) → (e : NumberExpr) → NumberExpr
    -- an operator, a comparison and a conversion
    Operate : (op : Arithmetic) → (kind : IntKind) → (a b : NumberExpr) → NumberExpr
    Compare : (op : Comparison) → (kind : IntKind) → (a b : NumberExpr) → NumberExpr
    Convert : (kind : IntKind) → (e : NumberExpr) → NumberExpr
    -- a pointer as a number
    AsNumber : (p : PointerExpr) → NumberExpr
    -- a number of a type is read from memory, or written there
    Load : (kind : IntKind) → (place : Place) → (p : PointerExpr) → NumberExpr
    Store : (kind : IntKind) → (place : Place) → (p : PointerExpr) → (e : NumberExpr) → NumberExpr
    -- a compound assignment, `++` or `--`, in the type `common`, of a private variable or in memory
    Update : (x : ℕ) → (kind : IntKind) → (op : Arithmetic) → (common : IntKind) → (e : NumberExpr) → (old : Bool) → NumberExpr
    UpdateAt : (kind : IntKind) → (place : Place) → (p : PointerExpr) → (op : Arithmetic) → (common : IntKind) → (e : NumberExpr) → (old : Bool) → NumberExpr
    -- `&&`, `||` and `?:`
    And : (a b : NumberExpr) → NumberExpr
    Or : (a b : NumberExpr) → NumberExpr
    Choose : (test a b : NumberExpr) → NumberExpr
    -- a call whose result is a number or nothing, and a service with or without its word
    Call : (symbol : ℕ) → (args : Arguments) → NumberExpr
    Serve : (service : CService) → (e : NumberExpr) → NumberExpr
    Ask : (service : CService) → NumberExpr

  -- an expression whose value is a pointer; the address of a place is one
  pub data PointerExpr : Type 0 where
    -- the null constant, an integer as a pointer, and the address of a function
    Null : PointerExpr
    FromInteger : (e : NumberExpr) → PointerExpr
    Function : (symbol : ℕ) → PointerExpr
    -- a variable or literal of this size behind a symbol, and a variable in the data frame
    Object : (symbol offset size : ℕ) → PointerExpr
    InFrame : (offset size : ℕ) → PointerExpr
    -- a private variable, and its assignment
    VariablePtr : (x : ℕ) → PointerExpr
    AssignPtr : (x : ℕ) → (e : PointerExpr) → PointerExpr
    -- a member of the struct at p, and an element or a pointer sum, with elements of this size
    Member : (offset : ℕ) → (rule : Rule) → (p : PointerExpr) → PointerExpr
    Element : (minus : Bool) → (size : ℕ) → (p : PointerExpr) → (i : NumberExpr) → PointerExpr
    -- a sum whose integer stands before its pointer, and is evaluated before it
    ElementAfter : (size : ℕ) → (i : NumberExpr) → (p : PointerExpr) → PointerExpr
    -- a pointer is read from memory, or written there
    LoadPtr : (place : Place) → (p : PointerExpr) → PointerExpr
    StorePtr : (place : Place) → (p e : PointerExpr) → PointerExpr
    -- `+=`, `-=`, `++` or `--` of a pointer, in a private variable or in memory
    Advance : (x : ℕ) → (minus : Bool) → (size : ℕ) → (i : NumberExpr) → (old : Bool) → PointerExpr
    AdvanceAt : (place : Place) → (p : PointerExpr) → (minus : Bool) → (size : ℕ) → (i : NumberExpr) → (old : Bool) → PointerExpr
    ChoosePtr : (test : NumberExpr) → (a b : PointerExpr) → PointerExpr
    CallPtr : (symbol : ℕ) → (args : Arguments) → PointerExpr
    -- the service `alloc`
    Alloc : (n : NumberExpr) → PointerExpr
    -- the builtins on bounds: set, narrow, copy, init, and a bound of q as a pointer with q's bounds
    SetBounds : (q : PointerExpr) → (n : NumberExpr) → PointerExpr
    NarrowBounds : (p q : PointerExpr) → (n : NumberExpr) → PointerExpr
    CopyBounds : (q r : PointerExpr) → PointerExpr
    InitBounds : (q : PointerExpr) → PointerExpr
    BoundOf : (upper : Bool) → (q : PointerExpr) → PointerExpr

  -- arguments, in order
  pub data Arguments : Type 0 where
    NoMore : Arguments
    WithNumber : (e : NumberExpr) → (rest : Arguments) → Arguments
    WithPointer : (p : PointerExpr) → (rest : Arguments) → Arguments

-- a scalar of a struct: its offset, and its type, which is a pointer where none is given
pub record Scalar : Type 0 where
  pub offset : ℕ
  pub kind : Option IntKind

-- an expression that is evaluated for what it does, and the assignment of a struct of this size to the place `to`
pub data Effect : Type 0 where
  Nothing : Effect
  OfNumber : (e : NumberExpr) → Effect
  OfPointer : (p : PointerExpr) → Effect
  CopyStruct : (size : ℕ) → (scalars : List Scalar) → (to_place : Place) → (to : PointerExpr) → (from_place : Place) → (from : PointerExpr) → Effect

pub data Statement : Type 0 where
  Skip : Statement
  Do : (e : Effect) → Statement
  Then : (a b : Statement) → Statement
  If : (test : NumberExpr) → (a b : Statement) → Statement
  While : (test : NumberExpr) → (body : Statement) → Statement
  DoWhile : (body : Statement) → (test : NumberExpr) → Statement
  For : (test : NumberExpr) → (step : Effect) → (body : Statement) → Statement
  Break : Statement
  Continue : Statement
  Return : Statement
  ReturnNumber : (e : NumberExpr) → Statement
  ReturnPtr : (p : PointerExpr) → Statement
