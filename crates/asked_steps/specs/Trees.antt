-- Core trees whose steps are within the limits of code: numbers are words, what is named has a size and an offset below 2^31, calls
-- have arguments of their symbols' shape, and a function that gives a pointer gives no number.
use Rattle.std.specs.Prelude.{◌≡◌, ℕ, ◌^◌, ◌<◌, ◌≤◌, Bool, true, false, Option, List, [], ◌∷◌}
use Rattle.narrowing.specs.declared.member.Rule.{Rule}
use Rattle.narrowing.specs.declared.member.Rule.TheVariants.{Keep, Meet}
use Rattle.fat_ir.specs.Step.{Located}
use Rattle.step_code.specs.Asked.{IsLow}
use Rattle.bounds_plan.specs.meaning.Core.{NumberExpr, Word, Variable, Assign, Operate, Compare, Convert, AsNumber, Load, Store, Update, UpdateAt, And, Or, Choose, Call, Serve, Ask, PointerExpr, Null, FromInteger, Function, Object, InFrame, VariablePtr, AssignPtr, Member, Element, ElementAfter, LoadPtr, StorePtr, Advance, AdvanceAt, ChoosePtr, CallPtr, Alloc, SetBounds, NarrowBounds, CopyBounds, InitBounds, BoundOf, Arguments, NoMore, WithNumber, WithPointer, Scalar, Effect, Nothing, OfNumber as ForNumber, OfPointer as ForPointer, CopyStruct, Statement, Skip, Do, Then, If, While, DoWhile, For, Break, Continue, Return, ReturnNumber, ReturnPtr}
use Rattle.bounds_plan.specs.steps.Code.{arguments_at}
use Rattle.bounds_plan.specs.steps.Follows.{count}
use Rattle.bounds_plan.specs.meaning.Functions.{Parameter, Private, Framed, FunctionOfC}

-- what stands at an offset
abbrev pub IsSmall : (offset size : ℕ) → Type 0
IsSmall offset size = (offset < 2 ^ 31) × (size < 2 ^ 31)

-- a rule for bounds has numbers that are words
abbrev pub RuleWithin : Rule → Type 0
RuleWithin Keep = Unit {0}
RuleWithin (Meet offset size) = (offset < 2 ^ 64) × (size < 2 ^ 64)

abbrev pub ScalarsWithin : List Scalar → Type 0
ScalarsWithin [] = Unit {0}
ScalarsWithin (x ∷ rest) = (x.offset < 2 ^ 64) × ScalarsWithin rest

-- parameters of the frame stand at small offsets
abbrev pub ParametersWithin : List Parameter → Type 0
ParametersWithin [] = Unit {0}
ParametersWithin (Private x kind ∷ rest) = ParametersWithin rest
ParametersWithin (Framed offset kind ∷ rest) = (offset < 2 ^ 31) × ParametersWithin rest

module _ (located : ℕ → Located) (pointer : Bool) (returns : ℕ → Bool) (takes : ℕ → List (ℕ × Option ℕ) → Bool) where
  -- a call has at most six arguments, which its symbol takes wherever they stand
  abbrev pub CallWithin : (symbol : ℕ) → Arguments → Type 0
  CallWithin symbol args = (count args ≤ 6) × ((d : ℕ) → takes symbol (arguments_at args d) ≡ true)

  abbrev mutual
    pub Within : NumberExpr → Type 0
    Within (Word n) = n < 2 ^ 64
    Within (Variable x) = Unit {0}
    Within (Assign x e) = Within e
    Within (Operate op kind a b) = Within a × Within b
    Within (Compare op kind a b) = Within a × Within b
    Within (Convert kind e) = Within e
    Within (AsNumber p) = WithinPtr p
    Within (Load kind place p) = WithinPtr p
    Within (Store kind place p e) = WithinPtr p × Within e
    Within (Update x kind op common e old) = Within e
    Within (UpdateAt kind place p op common e old) = WithinPtr p × Within e
    Within (And a b) = Within a × Within b
    Within (Or a b) = Within a × Within b
    Within (Choose test a b) = Within test × Within a × Within b
    Within (Call symbol args) = CallWithin symbol args × WithinAll args
    Within (Serve service e) = Within e
    Within (Ask service) = Unit {0}

    pub WithinPtr : PointerExpr → Type 0
    WithinPtr Null = Unit {0}
    WithinPtr (FromInteger e) = Within e
    WithinPtr (Function symbol) = IsLow (located symbol)
    WithinPtr (Object symbol offset size) = IsSmall offset size × IsLow (located symbol)
    WithinPtr (InFrame offset size) = IsSmall offset size
    WithinPtr (VariablePtr x) = Unit {0}
    WithinPtr (AssignPtr x e) = WithinPtr e
    WithinPtr (Member offset rule p) = (offset < 2 ^ 64) × RuleWithin rule × WithinPtr p
    WithinPtr (Element minus size p i) = (size < 2 ^ 64) × WithinPtr p × Within i
    WithinPtr (ElementAfter size i p) = (size < 2 ^ 64) × Within i × WithinPtr p
    WithinPtr (LoadPtr place p) = WithinPtr p
    WithinPtr (StorePtr place p e) = WithinPtr p × WithinPtr e
    WithinPtr (Advance x minus size i old) = (size < 2 ^ 64) × Within i
    WithinPtr (AdvanceAt place p minus size i old) = (size < 2 ^ 64) × WithinPtr p × Within i
    WithinPtr (ChoosePtr test a b) = Within test × WithinPtr a × WithinPtr b
    WithinPtr (CallPtr symbol args) = CallWithin symbol args × WithinAll args × (returns symbol ≡ true)
    WithinPtr (Alloc e) = Within e
    WithinPtr (SetBounds q n) = WithinPtr q × Within n
    WithinPtr (NarrowBounds p q n) = WithinPtr p × WithinPtr q × Within n
    WithinPtr (CopyBounds q r) = WithinPtr q × WithinPtr r
    WithinPtr (InitBounds q) = WithinPtr q
    WithinPtr (BoundOf upper q) = WithinPtr q

    pub WithinAll : Arguments → Type 0
    WithinAll NoMore = Unit {0}
    WithinAll (WithNumber e rest) = Within e × WithinAll rest
    WithinAll (WithPointer p rest) = WithinPtr p × WithinAll rest

  abbrev pub EffectWithin : Effect → Type 0
  EffectWithin Nothing = Unit {0}
  EffectWithin (ForNumber e) = Within e
  EffectWithin (ForPointer p) = WithinPtr p
  EffectWithin (CopyStruct size scalars to_place to from_place from) =
      (1 ≤ size) × (size < 2 ^ 31) × ScalarsWithin scalars × WithinPtr to × WithinPtr from

  abbrev pub StatementWithin : Statement → Type 0
  StatementWithin Skip = Unit {0}
  StatementWithin (Do e) = EffectWithin e
  StatementWithin (Then a b) = StatementWithin a × StatementWithin b
  StatementWithin (If test a b) = Within test × StatementWithin a × StatementWithin b
  StatementWithin (While test body) = Within test × StatementWithin body
  StatementWithin (DoWhile body test) = StatementWithin body × Within test
  StatementWithin (For test step body) = Within test × EffectWithin step × StatementWithin body
  StatementWithin Break = Unit {0}
  StatementWithin Continue = Unit {0}
  StatementWithin Return = Unit {0}
  StatementWithin (ReturnNumber e) = (pointer ≡ false) × Within e
  StatementWithin (ReturnPtr p) = WithinPtr p

  pub record FunctionWithin (f : FunctionOfC) : Type 0 where
    pub parameters : ParametersWithin f.parameters
    pub body : StatementWithin f.body
