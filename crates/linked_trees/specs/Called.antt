-- The symbols that a core tree calls.
use Rattle.std.specs.Prelude.{ℕ}
use Rattle.bounds_plan.specs.meaning.Core.{NumberExpr, Word, Variable, Assign, Operate, Compare, Convert, AsNumber, Load, Store, Update, UpdateAt, And, Or, Choose, Call, Serve, Ask, PointerExpr, Null, FromInteger, Function, Object, InFrame, VariablePtr, AssignPtr, Member, Element, ElementAfter, LoadPtr, StorePtr, Advance, AdvanceAt, ChoosePtr, CallPtr, Alloc, SetBounds, NarrowBounds, CopyBounds, InitBounds, BoundOf, Arguments, NoMore, WithNumber, WithPointer, Effect, Nothing, OfNumber as ForNumber, OfPointer as ForPointer, CopyStruct, Statement, Skip, Do, Then, If, While, DoWhile, For, Break, Continue, Return, ReturnNumber, ReturnPtr}
use Rattle.bounds_plan.specs.meaning.Functions.{FunctionOfC}

-- each symbol that is called is one of these
module _ (Symbol : ℕ → Type 0) where
  abbrev mutual
    pub Calls : NumberExpr → Type 0
    Calls (Word n) = Unit {0}
    Calls (Variable x) = Unit {0}
    Calls (Assign x e) = Calls e
    Calls (Operate op kind a b) = Calls a × Calls b
    Calls (Compare op kind a b) = Calls a × Calls b
    Calls (Convert kind e) = Calls e
    Calls (AsNumber p) = CallsPtr p
    Calls (Load kind place p) = CallsPtr p
    Calls (Store kind place p e) = CallsPtr p × Calls e
    Calls (Update x kind op common e old) = Calls e
    Calls (UpdateAt kind place p op common e old) = CallsPtr p × Calls e
    Calls (And a b) = Calls a × Calls b
    Calls (Or a b) = Calls a × Calls b
    Calls (Choose test a b) = Calls test × Calls a × Calls b
    Calls (Call symbol args) = Symbol symbol × CallsAll args
    Calls (Serve service e) = Calls e
    Calls (Ask service) = Unit {0}

    pub CallsPtr : PointerExpr → Type 0
    CallsPtr Null = Unit {0}
    CallsPtr (FromInteger e) = Calls e
    CallsPtr (Function symbol) = Unit {0}
    CallsPtr (Object symbol offset size) = Unit {0}
    CallsPtr (InFrame offset size) = Unit {0}
    CallsPtr (VariablePtr x) = Unit {0}
    CallsPtr (AssignPtr x e) = CallsPtr e
    CallsPtr (Member offset rule p) = CallsPtr p
    CallsPtr (Element minus size p i) = CallsPtr p × Calls i
    CallsPtr (ElementAfter size i p) = Calls i × CallsPtr p
    CallsPtr (LoadPtr place p) = CallsPtr p
    CallsPtr (StorePtr place p e) = CallsPtr p × CallsPtr e
    CallsPtr (Advance x minus size i old) = Calls i
    CallsPtr (AdvanceAt place p minus size i old) = CallsPtr p × Calls i
    CallsPtr (ChoosePtr test a b) = Calls test × CallsPtr a × CallsPtr b
    CallsPtr (CallPtr symbol args) = Symbol symbol × CallsAll args
    CallsPtr (Alloc e) = Calls e
    CallsPtr (SetBounds q n) = CallsPtr q × Calls n
    CallsPtr (NarrowBounds p q n) = CallsPtr p × CallsPtr q × Calls n
    CallsPtr (CopyBounds q r) = CallsPtr q × CallsPtr r
    CallsPtr (InitBounds q) = CallsPtr q
    CallsPtr (BoundOf upper q) = CallsPtr q

    pub CallsAll : Arguments → Type 0
    CallsAll NoMore = Unit {0}
    CallsAll (WithNumber e rest) = Calls e × CallsAll rest
    CallsAll (WithPointer p rest) = CallsPtr p × CallsAll rest

  abbrev pub EffectCalls : Effect → Type 0
  EffectCalls Nothing = Unit {0}
  EffectCalls (ForNumber e) = Calls e
  EffectCalls (ForPointer p) = CallsPtr p
  EffectCalls (CopyStruct size scalars to_place to from_place from) = CallsPtr to × CallsPtr from

  abbrev pub StatementCalls : Statement → Type 0
  StatementCalls Skip = Unit {0}
  StatementCalls (Do e) = EffectCalls e
  StatementCalls (Then a b) = StatementCalls a × StatementCalls b
  StatementCalls (If test a b) = Calls test × StatementCalls a × StatementCalls b
  StatementCalls (While test body) = Calls test × StatementCalls body
  StatementCalls (DoWhile body test) = StatementCalls body × Calls test
  StatementCalls (For test step body) = Calls test × EffectCalls step × StatementCalls body
  StatementCalls Break = Unit {0}
  StatementCalls Continue = Unit {0}
  StatementCalls Return = Unit {0}
  StatementCalls (ReturnNumber e) = Calls e
  StatementCalls (ReturnPtr p) = CallsPtr p

  abbrev pub FunctionCalls : FunctionOfC → Type 0
  FunctionCalls f = StatementCalls f.body
