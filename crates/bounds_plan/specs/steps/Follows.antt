-- What a tree must be so that its fat steps do what it means, and what the values and outcomes of C are beside those of steps.
use Rattle.std.specs.Prelude.{ℕ, suc, ◌+◌, ◌<◌, ◌≡◌, Bool, true, false, if◌then◌else◌, List, [], ◌∷◌, ◌++◌, length}
use Rattle.mx_base.specs.Bounds.{full_bounds}
use Rattle.mx_base.specs.World.{World, Log}
use Rattle.fat_ir.specs.Values.{Held, Number, Pair, Values, Value}
use Rattle.fat_ir.specs.declared.step.FatStep.TheVariants.{Label}
use Rattle.fat_ir.specs.Step.{Symbols, Next}
use Rattle.fat_ir.specs.Run.{steps_run}
use Rattle.fat_ir.specs.Calls.{Callee, Outcome, Comes as ComesBack, Stops as StopsAt}
use Rattle.bounds_plan.specs.meaning.Core.{NumberExpr, Word, Variable, Assign, Operate, Compare, Convert, AsNumber, Load, Store, Update, UpdateAt, And, Or, Choose, Call, Serve, Ask, PointerExpr, Null, FromInteger, Function, Object, InFrame, VariablePtr, AssignPtr, Member, Element, ElementAfter, LoadPtr, StorePtr, Advance, AdvanceAt, ChoosePtr, CallPtr, Alloc, SetBounds, NarrowBounds, CopyBounds, InitBounds, BoundOf, Arguments, NoMore, WithNumber, WithPointer, Effect, Nothing, OfNumber as ForNumber, OfPointer as ForPointer, CopyStruct, Statement, Skip, Do, Then, If, While, DoWhile, For, Break, Continue, Return, ReturnNumber, ReturnPtr}
use Rattle.bounds_plan.specs.meaning.State.{Passed, OfNumber, OfPointer, State, ◌>>=◌}
use Rattle.bounds_plan.specs.meaning.Expressions.{Answer, Comes, Stops, CalleeOfC, Names}
use Rattle.bounds_plan.specs.meaning.Statements.{statement}
use Rattle.bounds_plan.specs.meaning.Functions.{result_of, answer_of}
use Rattle.bounds_plan.specs.steps.Code.{code_of}

-- ---- trees that fit

-- how many arguments a call has
abbrev pub count : Arguments → ℕ
count NoMore = 0
count (WithNumber e rest) = suc (count rest)
count (WithPointer p rest) = suc (count rest)

-- a private number, and a private pointer, whose bounds are the next value
abbrev pub IsNumber : (private : ℕ) → (is_bounds : ℕ → Bool) → ℕ → Type 0
IsNumber private is_bounds x = (x < private) × (is_bounds x ≡ false)

abbrev pub IsPointer : (private : ℕ) → (is_bounds : ℕ → Bool) → ℕ → Type 0
IsPointer private is_bounds x = (x + 1 < private) × (is_bounds x ≡ false) × (is_bounds (x + 1) ≡ true)

-- the private variables of a tree are among the values of the function, of which it is given whether each is bounds, and each call has as
-- many arguments as its symbol takes
abbrev mutual
  pub Fits : (private : ℕ) → (is_bounds : ℕ → Bool) → (takes : ℕ → ℕ) → NumberExpr → Type 0
  Fits private is_bounds takes (Word n) = Unit {0}
  Fits private is_bounds takes (Variable x) = IsNumber private is_bounds x
  Fits private is_bounds takes (Assign x e) = IsNumber private is_bounds x × Fits private is_bounds takes e
  Fits private is_bounds takes (Operate op kind a b) = Fits private is_bounds takes a × Fits private is_bounds takes b
  Fits private is_bounds takes (Compare op kind a b) = Fits private is_bounds takes a × Fits private is_bounds takes b
  Fits private is_bounds takes (Convert kind e) = Fits private is_bounds takes e
  Fits private is_bounds takes (AsNumber p) = FitsPtr private is_bounds takes p
  Fits private is_bounds takes (Load kind place p) = FitsPtr private is_bounds takes p
  Fits private is_bounds takes (Store kind place p e) = FitsPtr private is_bounds takes p × Fits private is_bounds takes e
  Fits private is_bounds takes (Update x kind op common e old) = IsNumber private is_bounds x × Fits private is_bounds takes e
  Fits private is_bounds takes (UpdateAt kind place p op common e old) = FitsPtr private is_bounds takes p × Fits private is_bounds takes e
  Fits private is_bounds takes (And a b) = Fits private is_bounds takes a × Fits private is_bounds takes b
  Fits private is_bounds takes (Or a b) = Fits private is_bounds takes a × Fits private is_bounds takes b
  Fits private is_bounds takes (Choose test a b) = Fits private is_bounds takes test × Fits private is_bounds takes a × Fits private is_bounds takes b
  Fits private is_bounds takes (Call symbol args) = (count args ≡ takes symbol) × FitsAll private is_bounds takes args
  Fits private is_bounds takes (Serve service e) = Fits private is_bounds takes e
  Fits private is_bounds takes (Ask service) = Unit {0}

  pub FitsPtr : (private : ℕ) → (is_bounds : ℕ → Bool) → (takes : ℕ → ℕ) → PointerExpr → Type 0
  FitsPtr private is_bounds takes Null = Unit {0}
  FitsPtr private is_bounds takes (FromInteger e) = Fits private is_bounds takes e
  FitsPtr private is_bounds takes (Function symbol) = Unit {0}
  FitsPtr private is_bounds takes (Object symbol offset size) = Unit {0}
  FitsPtr private is_bounds takes (InFrame offset size) = Unit {0}
  FitsPtr private is_bounds takes (VariablePtr x) = IsPointer private is_bounds x
  FitsPtr private is_bounds takes (AssignPtr x e) = IsPointer private is_bounds x × FitsPtr private is_bounds takes e
  FitsPtr private is_bounds takes (Member offset rule p) = FitsPtr private is_bounds takes p
  FitsPtr private is_bounds takes (Element minus size p i) = FitsPtr private is_bounds takes p × Fits private is_bounds takes i
  FitsPtr private is_bounds takes (ElementAfter size i p) = Fits private is_bounds takes i × FitsPtr private is_bounds takes p
  FitsPtr private is_bounds takes (LoadPtr place p) = FitsPtr private is_bounds takes p
  FitsPtr private is_bounds takes (StorePtr place p e) = FitsPtr private is_bounds takes p × FitsPtr private is_bounds takes e
  FitsPtr private is_bounds takes (Advance x minus size i old) = IsPointer private is_bounds x × Fits private is_bounds takes i
  FitsPtr private is_bounds takes (AdvanceAt place p minus size i old) = FitsPtr private is_bounds takes p × Fits private is_bounds takes i
  FitsPtr private is_bounds takes (ChoosePtr test a b) = Fits private is_bounds takes test × FitsPtr private is_bounds takes a × FitsPtr private is_bounds takes b
  FitsPtr private is_bounds takes (CallPtr symbol args) = (count args ≡ takes symbol) × FitsAll private is_bounds takes args
  FitsPtr private is_bounds takes (Alloc e) = Fits private is_bounds takes e
  FitsPtr private is_bounds takes (SetBounds q n) = FitsPtr private is_bounds takes q × Fits private is_bounds takes n
  FitsPtr private is_bounds takes (NarrowBounds p q n) = FitsPtr private is_bounds takes p × FitsPtr private is_bounds takes q × Fits private is_bounds takes n
  FitsPtr private is_bounds takes (CopyBounds q r) = FitsPtr private is_bounds takes q × FitsPtr private is_bounds takes r
  FitsPtr private is_bounds takes (InitBounds q) = FitsPtr private is_bounds takes q
  FitsPtr private is_bounds takes (BoundOf upper q) = FitsPtr private is_bounds takes q

  pub FitsAll : (private : ℕ) → (is_bounds : ℕ → Bool) → (takes : ℕ → ℕ) → Arguments → Type 0
  FitsAll private is_bounds takes NoMore = Unit {0}
  FitsAll private is_bounds takes (WithNumber e rest) = Fits private is_bounds takes e × FitsAll private is_bounds takes rest
  FitsAll private is_bounds takes (WithPointer p rest) = FitsPtr private is_bounds takes p × FitsAll private is_bounds takes rest

abbrev pub FitsEffect : (private : ℕ) → (is_bounds : ℕ → Bool) → (takes : ℕ → ℕ) → Effect → Type 0
FitsEffect private is_bounds takes Nothing = Unit {0}
FitsEffect private is_bounds takes (ForNumber e) = Fits private is_bounds takes e
FitsEffect private is_bounds takes (ForPointer p) = FitsPtr private is_bounds takes p
FitsEffect private is_bounds takes (CopyStruct size scalars to_place to from_place from) = FitsPtr private is_bounds takes to × FitsPtr private is_bounds takes from

abbrev pub FitsStatement : (private : ℕ) → (is_bounds : ℕ → Bool) → (takes : ℕ → ℕ) → Statement → Type 0
FitsStatement private is_bounds takes Skip = Unit {0}
FitsStatement private is_bounds takes (Do e) = FitsEffect private is_bounds takes e
FitsStatement private is_bounds takes (Then a b) = FitsStatement private is_bounds takes a × FitsStatement private is_bounds takes b
FitsStatement private is_bounds takes (If test a b) = Fits private is_bounds takes test × FitsStatement private is_bounds takes a × FitsStatement private is_bounds takes b
FitsStatement private is_bounds takes (While test body) = Fits private is_bounds takes test × FitsStatement private is_bounds takes body
FitsStatement private is_bounds takes (DoWhile body test) = FitsStatement private is_bounds takes body × Fits private is_bounds takes test
FitsStatement private is_bounds takes (For test step body) = Fits private is_bounds takes test × FitsEffect private is_bounds takes step × FitsStatement private is_bounds takes body
FitsStatement private is_bounds takes Break = Unit {0}
FitsStatement private is_bounds takes Continue = Unit {0}
FitsStatement private is_bounds takes Return = Unit {0}
FitsStatement private is_bounds takes (ReturnNumber e) = Fits private is_bounds takes e
FitsStatement private is_bounds takes (ReturnPtr p) = FitsPtr private is_bounds takes p

-- ---- values and outcomes

-- what passes between functions, without where its bounds come from
abbrev pub value_of : Passed → Value
value_of (OfNumber n) = record { number = n; bounds = full_bounds }
value_of (OfPointer p) = record { number = p.address; bounds = p.rooted.bounds }

abbrev pub values_of : List Passed → List Value
values_of [] = []
values_of (v ∷ vs) = value_of v ∷ values_of vs

-- how a call ends, without the log
abbrev pub outcome_of : Answer → Outcome
outcome_of (Comes v w log) = ComesBack (value_of v) w
outcome_of (Stops why w log) = StopsAt why w

-- functions that do the same wherever they get as many arguments as they take
abbrev pub DoesSame : (takes : ℕ → ℕ) → CalleeOfC → Callee → Type 0
DoesSame takes own fat = (f : ℕ) (args : List Passed) (w : World) (log : Log) → length args ≡ takes f → fat f (values_of args) w ≡ outcome_of (own f args w log)

-- what a private variable holds in the state of C
abbrev pub held_by : (is_bounds : ℕ → Bool) → State → ℕ → Held
held_by is_bounds s v = if is_bounds v then Pair (s.pairs v).bounds else Number (s.numbers v)

-- the values of steps hold the private variables of a state of C
abbrev pub Holds : (private : ℕ) → (is_bounds : ℕ → Bool) → State → Values → Type 0
Holds private is_bounds s values = (v : ℕ) → v < private → values v ≡ held_by is_bounds s v

-- the symbols of steps stand where those of C do
abbrev pub StandsSame : Names → Symbols → Type 0
StandsSame names symbols = (symbol : ℕ) → symbols.located symbol ≡ names.located symbol

-- ---- bodies

-- the run of the steps of a body alone, of which the next temporary is given, from values on; label 0 is its end
abbrev pub body_run_by_steps : Symbols → (private : ℕ) → (body : Statement) → (temp : ℕ) → Values → World → Outcome
body_run_by_steps symbols private body temp values w = steps_run symbols private (code_of body temp 1 0 0 ++ (Label 0 ∷ [])) Next record { values = values; world = w }

-- the run of the body in C, from a state on
abbrev pub body_run_in_c : Names → (body : Statement) → State → Answer
body_run_in_c names body state = answer_of ((statement names body >>= result_of) state)
