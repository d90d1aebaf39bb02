-- Which values the steps of a function name, and as what.
use Rattle.std.specs.Prelude.{ℕ, ◌+◌, ◌<◌, ◌≡◌, ◌⊎◌, max, Bool, true, false, Option, None, Some, List, [], ◌∷◌, slice_index_or}
use Rattle.fat_ir.specs.declared.program.FatFun.{FatFun}
use Rattle.fat_ir.specs.declared.step.FatStep.{FatStep}
use Rattle.fat_ir.specs.declared.step.FatStep.TheVariants as s
use Rattle.bounds_plan.specs.meaning.Core.{NumberExpr, Word, Variable, Assign, Operate, Compare, Convert, AsNumber, Load, Store, Update, UpdateAt, And, Or, Choose, Call, Serve, Ask, PointerExpr, Null, FromInteger, Function, Object, InFrame, VariablePtr, AssignPtr, Member, Element, ElementAfter, LoadPtr, StorePtr, Advance, AdvanceAt, ChoosePtr, CallPtr, Alloc, SetBounds, NarrowBounds, CopyBounds, InitBounds, BoundOf, Arguments, NoMore, WithNumber, WithPointer, Effect, Nothing, OfNumber as ForNumber, OfPointer as ForPointer, CopyStruct, Statement, Skip, Do, Then, If, While, DoWhile, For, Break, Continue, Return, ReturnNumber, ReturnPtr}

-- ---- how many pairs of temporaries the code of a tree needs

abbrev mutual
  pub pairs : NumberExpr → ℕ
  pairs (Word n) = 1
  pairs (Variable x) = 1
  pairs (Assign x e) = pairs e
  pairs (Operate op kind a b) = max (pairs a) (1 + pairs b)
  pairs (Compare op kind a b) = max (pairs a) (1 + pairs b)
  pairs (Convert kind e) = pairs e
  pairs (AsNumber p) = pairs_ptr p
  pairs (Load kind place p) = pairs_ptr p
  pairs (Store kind place p e) = max (pairs_ptr p) (1 + pairs e)
  pairs (Update x kind op common e old) = max (pairs e) 2
  pairs (UpdateAt kind place p op common e old) = max (pairs_ptr p) (max (1 + pairs e) 3)
  pairs (And a b) = max (pairs a) (pairs b)
  pairs (Or a b) = max (pairs a) (pairs b)
  pairs (Choose test a b) = max (pairs test) (max (pairs a) (pairs b))
  pairs (Call symbol args) = max (pairs_all args) 1
  pairs (Serve service e) = pairs e
  pairs (Ask service) = 1

  pub pairs_ptr : PointerExpr → ℕ
  pairs_ptr Null = 1
  pairs_ptr (FromInteger e) = max (pairs e) 2
  pairs_ptr (Function symbol) = 1
  pairs_ptr (Object symbol offset size) = 1
  pairs_ptr (InFrame offset size) = 1
  pairs_ptr (VariablePtr x) = 1
  pairs_ptr (AssignPtr x e) = pairs_ptr e
  pairs_ptr (Member offset rule p) = max (pairs_ptr p) 3
  pairs_ptr (Element minus size p i) = max (pairs_ptr p) (max (1 + pairs i) 3)
  pairs_ptr (ElementAfter size i p) = max (pairs i) (max (1 + pairs_ptr p) 3)
  pairs_ptr (LoadPtr place p) = pairs_ptr p
  pairs_ptr (StorePtr place p e) = max (pairs_ptr p) (1 + pairs_ptr e)
  pairs_ptr (Advance x minus size i old) = max (pairs i) 2
  pairs_ptr (AdvanceAt place p minus size i old) = max (pairs_ptr p) (max (1 + pairs i) 3)
  pairs_ptr (ChoosePtr test a b) = max (pairs test) (max (pairs_ptr a) (pairs_ptr b))
  pairs_ptr (CallPtr symbol args) = max (pairs_all args) 1
  pairs_ptr (Alloc e) = max (pairs e) 2
  pairs_ptr (SetBounds q n) = max (pairs_ptr q) (1 + pairs n)
  pairs_ptr (NarrowBounds p q n) = max (pairs_ptr p) (max (1 + pairs_ptr q) (2 + pairs n))
  pairs_ptr (CopyBounds q r) = max (pairs_ptr q) (1 + pairs_ptr r)
  pairs_ptr (InitBounds q) = max (pairs_ptr q) 2
  pairs_ptr (BoundOf upper q) = pairs_ptr q

  pub pairs_all : Arguments → ℕ
  pairs_all NoMore = 0
  pairs_all (WithNumber e rest) = max (pairs e) (1 + pairs_all rest)
  pairs_all (WithPointer p rest) = max (pairs_ptr p) (1 + pairs_all rest)

abbrev pub pairs_effect : Effect → ℕ
pairs_effect Nothing = 0
pairs_effect (ForNumber e) = pairs e
pairs_effect (ForPointer p) = pairs_ptr p
pairs_effect (CopyStruct size scalars to_place to from_place from) = max (pairs_ptr to) (max (1 + pairs_ptr from) 4)

abbrev pub pairs_of : Statement → ℕ
pairs_of Skip = 0
pairs_of (Do e) = pairs_effect e
pairs_of (Then a b) = max (pairs_of a) (pairs_of b)
pairs_of (If test a b) = max (pairs test) (max (pairs_of a) (pairs_of b))
pairs_of (While test body) = max (pairs test) (pairs_of body)
pairs_of (DoWhile body test) = max (pairs test) (pairs_of body)
pairs_of (For test step body) = max (pairs test) (max (pairs_effect step) (pairs_of body))
pairs_of Break = 0
pairs_of Continue = 0
pairs_of Return = 0
pairs_of (ReturnNumber e) = pairs e
pairs_of (ReturnPtr p) = pairs_ptr p

-- ---- steps that name the right values

abbrev pub OfSome : (ℕ → Type 0) → Option ℕ → Type 0
OfSome fact None = Unit {0}
OfSome fact (Some v) = fact v

abbrev pub OfArguments : (N B : ℕ → Type 0) → List (ℕ × Option ℕ) → Type 0
OfArguments N B [] = Unit {0}
OfArguments N B (a ∷ rest) = N a.0 × OfSome B a.1 × OfArguments N B rest

-- the one fact of each value that a step names as a number, and the other of each that it names as bounds; a copy is of either
abbrev pub NamesRight : (N B : ℕ → Type 0) → FatStep → Type 0
NamesRight N B (s.Const to n) = N to
NamesRight N B (s.Copy to from) = (N to × N from) ⊎ (B to × B from)
NamesRight N B (s.Arith to op kind a b) = N to × N a × N b
NamesRight N B (s.Compare to op kind a b) = N to × N a × N b
NamesRight N B (s.Extend to from kind) = N to × N from
NamesRight N B (s.Place to bounds symbol offset size) = N to × B bounds
NamesRight N B (s.Make to p n) = B to × N p × N n
NamesRight N B (s.Meet to a b) = B to × B a × B b
NamesRight N B (s.Bound to from upper) = N to × B from
NamesRight N B (s.Judge value size bounds write place) = N value × B bounds
NamesRight N B (s.Load p to kind) = N p × N to
NamesRight N B (s.Store p from kind) = N p × N from
NamesRight N B (s.LoadPtr p to bounds) = N p × N to × B bounds
NamesRight N B (s.StorePtr p from bounds) = N p × N from × B bounds
NamesRight N B (s.Label n) = Unit {0}
NamesRight N B (s.Jump n) = Unit {0}
NamesRight N B (s.JumpIf from n) = N from
NamesRight N B (s.Call symbol args to bounds) = OfArguments N B args × OfSome N to × OfSome B bounds
NamesRight N B (s.Service service arg to) = OfSome N arg × OfSome N to
NamesRight N B (s.Give from bounds) = OfSome N from × OfSome B bounds

abbrev pub AllNameRight : (N B : ℕ → Type 0) → List FatStep → Type 0
AllNameRight N B [] = Unit {0}
AllNameRight N B (step ∷ rest) = NamesRight N B step × AllNameRight N B rest

-- of these values as many as are bounds, or numbers
abbrev pub same_sort : (a b : Bool) → ℕ
same_sort true true = 1
same_sort true false = 0
same_sort false true = 0
same_sort false false = 1

abbrev pub how_many : (is_bounds : Bool) → List Bool → ℕ
how_many is_bounds [] = 0
how_many is_bounds (b ∷ more) = same_sort is_bounds b + how_many is_bounds more

-- a value of a function that its numbering says is a number, and one that it says is bounds
abbrev pub NumberIn : FatFun → ℕ → Type 0
NumberIn f v = (v < f.private + f.temps) × (slice_index_or f.bounds v false ≡ false)

abbrev pub BoundsIn : FatFun → ℕ → Type 0
BoundsIn f v = (v < f.private + f.temps) × (slice_index_or f.bounds v false ≡ true)
