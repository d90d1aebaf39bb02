-- A tree within the limits by what its symbols take is within them by what others say of the symbols that it calls.
use Rattle.std.proofs.Common.{◌≡◌, ℕ, Bool, true, List}
use Rattle.std.specs.Prelude.{Option}
use Rattle.fat_ir.specs.Step.{Located}
use Rattle.bounds_plan.specs.meaning.Core.{NumberExpr, Word, Variable, Assign, Operate, Compare, Convert, AsNumber, Load, Store, Update, UpdateAt, And, Or, Choose, Call, Serve, Ask, PointerExpr, Null, FromInteger, Function, Object, InFrame, VariablePtr, AssignPtr, Member, Element, ElementAfter, LoadPtr, StorePtr, Advance, AdvanceAt, ChoosePtr, CallPtr, Alloc, SetBounds, NarrowBounds, CopyBounds, InitBounds, BoundOf, Arguments, NoMore, WithNumber, WithPointer, Effect, Nothing, OfNumber as ForNumber, OfPointer as ForPointer, CopyStruct, Statement, Skip, Do, Then, If, While, DoWhile, For, Break, Continue, Return, ReturnNumber, ReturnPtr}
use Rattle.bounds_plan.specs.steps.Code.{arguments_at}
use Rattle.bounds_plan.specs.meaning.Functions.{FunctionOfC}
use Rattle.asked_steps.specs.Trees.{CallWithin, Within, WithinPtr, WithinAll, EffectWithin, StatementWithin, FunctionWithin}
use Rattle.linked_trees.specs.Called.{Calls, CallsPtr, CallsAll, EffectCalls, StatementCalls, FunctionCalls}

module _ (located : ℕ → Located) (pointer : Bool) (returns returns_too : ℕ → Bool) (takes takes_too : ℕ → List (ℕ × Option ℕ) → Bool) (Symbol : ℕ → Type 0)
    (gives : (symbol : ℕ) → Symbol symbol → returns symbol ≡ true → returns_too symbol ≡ true)
    (serves : (symbol : ℕ) → Symbol symbol → (args : List (ℕ × Option ℕ)) → takes symbol args ≡ true → takes_too symbol args ≡ true) where
  call : (symbol : ℕ) (args : Arguments) → CallWithin located pointer returns takes symbol args → Symbol symbol → CallWithin located pointer returns_too takes_too symbol args
  call symbol args h k = (h.0, λ d. serves symbol k (arguments_at args d) (h.1 d))

  mutual
    number : (e : NumberExpr) → Within located pointer returns takes e → Calls Symbol e → Within located pointer returns_too takes_too e
    number (Word n) h k = h
    number (Variable x) h k = tt
    number (Assign x e) h k = number e h k
    number (Operate op kind a b) h k = (number a h.0 k.0, number b h.1 k.1)
    number (Compare op kind a b) h k = (number a h.0 k.0, number b h.1 k.1)
    number (Convert kind e) h k = number e h k
    number (AsNumber p) h k = address p h k
    number (Load kind place p) h k = address p h k
    number (Store kind place p e) h k = (address p h.0 k.0, number e h.1 k.1)
    number (Update x kind op common e old) h k = number e h k
    number (UpdateAt kind place p op common e old) h k = (address p h.0 k.0, number e h.1 k.1)
    number (And a b) h k = (number a h.0 k.0, number b h.1 k.1)
    number (Or a b) h k = (number a h.0 k.0, number b h.1 k.1)
    number (Choose test a b) h k = (number test h.0 k.0, number a h.1 k.1, number b h.2 k.2)
    number (Call symbol args) h k = (call symbol args h.0 k.0, arguments args h.1 k.1)
    number (Serve service e) h k = number e h k
    number (Ask service) h k = tt

    address : (e : PointerExpr) → WithinPtr located pointer returns takes e → CallsPtr Symbol e → WithinPtr located pointer returns_too takes_too e
    address Null h k = tt
    address (FromInteger e) h k = number e h k
    address (Function symbol) h k = h
    address (Object symbol offset size) h k = h
    address (InFrame offset size) h k = h
    address (VariablePtr x) h k = tt
    address (AssignPtr x e) h k = address e h k
    address (Member offset rule p) h k = (h.0, h.1, address p h.2 k)
    address (Element minus size p i) h k = (h.0, address p h.1 k.0, number i h.2 k.1)
    address (ElementAfter size i p) h k = (h.0, number i h.1 k.0, address p h.2 k.1)
    address (LoadPtr place p) h k = address p h k
    address (StorePtr place p e) h k = (address p h.0 k.0, address e h.1 k.1)
    address (Advance x minus size i old) h k = (h.0, number i h.1 k)
    address (AdvanceAt place p minus size i old) h k = (h.0, address p h.1 k.0, number i h.2 k.1)
    address (ChoosePtr test a b) h k = (number test h.0 k.0, address a h.1 k.1, address b h.2 k.2)
    address (CallPtr symbol args) h k = (call symbol args h.0 k.0, arguments args h.1 k.1, gives symbol k.0 h.2)
    address (Alloc e) h k = number e h k
    address (SetBounds q n) h k = (address q h.0 k.0, number n h.1 k.1)
    address (NarrowBounds p q n) h k = (address p h.0 k.0, address q h.1 k.1, number n h.2 k.2)
    address (CopyBounds q r) h k = (address q h.0 k.0, address r h.1 k.1)
    address (InitBounds q) h k = address q h k
    address (BoundOf upper q) h k = address q h k

    arguments : (args : Arguments) → WithinAll located pointer returns takes args → CallsAll Symbol args → WithinAll located pointer returns_too takes_too args
    arguments NoMore h k = tt
    arguments (WithNumber e rest) h k = (number e h.0 k.0, arguments rest h.1 k.1)
    arguments (WithPointer p rest) h k = (address p h.0 k.0, arguments rest h.1 k.1)

  effect : (e : Effect) → EffectWithin located pointer returns takes e → EffectCalls Symbol e → EffectWithin located pointer returns_too takes_too e
  effect Nothing h k = tt
  effect (ForNumber e) h k = number e h k
  effect (ForPointer p) h k = address p h k
  effect (CopyStruct size scalars to_place to from_place from) h k = (h.0, h.1, h.2, address to h.3 k.0, address from h.4 k.1)

  statement : (st : Statement) → StatementWithin located pointer returns takes st → StatementCalls Symbol st → StatementWithin located pointer returns_too takes_too st
  statement Skip h k = tt
  statement (Do e) h k = effect e h k
  statement (Then a b) h k = (statement a h.0 k.0, statement b h.1 k.1)
  statement (If test a b) h k = (number test h.0 k.0, statement a h.1 k.1, statement b h.2 k.2)
  statement (While test body) h k = (number test h.0 k.0, statement body h.1 k.1)
  statement (DoWhile body test) h k = (statement body h.0 k.0, number test h.1 k.1)
  statement (For test step body) h k = (number test h.0 k.0, effect step h.1 k.1, statement body h.2 k.2)
  statement Break h k = tt
  statement Continue h k = tt
  statement Return h k = tt
  statement (ReturnNumber e) h k = (h.0, number e h.1 k)
  statement (ReturnPtr p) h k = address p h k

  pub within_too : (f : FunctionOfC) → FunctionWithin located pointer returns takes f → FunctionCalls Symbol f → FunctionWithin located pointer returns_too takes_too f
  within_too f h k = record { parameters = h.parameters; body = statement f.body h.body k }
