-- The fat steps of a core tree. The value of an expression goes into the temporary d, and the bounds of a pointer into d + 1; temporaries
-- from d on are used, in pairs, so that each is a number or bounds throughout a function. Labels are used from l on.
use Rattle.std.specs.Prelude.{ℕ, zero, suc, ◌+◌, ◌*◌, Bool, true, false, if◌then◌else◌, Option, None, Some, List, [], ◌∷◌, ◌++◌, length}
use Rattle.mx_base.specs.declared.services.CService.TheVariants as in_c
use Rattle.mx_base.specs.declared.numbers.IntKind.{IntKind}
use Rattle.mx_base.specs.declared.numbers.IntKind.TheVariants.{U64}
use Rattle.mx_base.specs.Numbers.{size_of}
use Rattle.mx_base.specs.declared.operators.Arithmetic.{Arithmetic}
use Rattle.mx_base.specs.declared.operators.Arithmetic.TheVariants.{Mul, Add, Sub}
use Rattle.narrowing.specs.declared.member.Rule.{Rule}
use Rattle.narrowing.specs.declared.member.Rule.TheVariants.{Keep, Meet as MeetRule}
use Rattle.fat_ir.specs.declared.program.FatFun.{FatFun}
use Rattle.fat_ir.specs.declared.step.FatStep.{FatStep}
use Rattle.fat_ir.specs.declared.step.FatStep.TheVariants as s
use Rattle.fat_ir.specs.Functions.{Parameter as FatParameter}
use Rattle.bounds_plan.specs.meaning.Core.{NumberExpr, Word, Variable, Assign, Operate, Compare, Convert, AsNumber, Load, Store, Update, UpdateAt, And, Or, Choose, Call, Serve, Ask, PointerExpr, Null, FromInteger, Function, Object, InFrame, VariablePtr, AssignPtr, Member, Element, ElementAfter, LoadPtr, StorePtr, Advance, AdvanceAt, ChoosePtr, CallPtr, Alloc, SetBounds, NarrowBounds, CopyBounds, InitBounds, BoundOf, Arguments, NoMore, WithNumber, WithPointer, Scalar, Effect, Nothing, OfNumber, OfPointer, CopyStruct, Statement, Skip, Do, Then, If, While, DoWhile, For, Break, Continue, Return, ReturnNumber, ReturnPtr}
use Rattle.bounds_plan.specs.meaning.Functions.{Parameter, Private, Framed, FunctionOfC}

abbrev pub plus_or_minus : (minus : Bool) → Arithmetic
plus_or_minus minus = if minus then Sub else Add

-- ---- how many labels a tree needs

abbrev mutual
  pub labels : NumberExpr → ℕ
  labels (Word n) = 0
  labels (Variable x) = 0
  labels (Assign x e) = labels e
  labels (Operate op kind a b) = labels a + labels b
  labels (Compare op kind a b) = labels a + labels b
  labels (Convert kind e) = labels e
  labels (AsNumber p) = labels_ptr p
  labels (Load kind place p) = labels_ptr p
  labels (Store kind place p e) = labels_ptr p + labels e
  labels (Update x kind op common e old) = labels e
  labels (UpdateAt kind place p op common e old) = labels_ptr p + labels e
  labels (And a b) = 3 + labels a + labels b
  labels (Or a b) = 2 + labels a + labels b
  labels (Choose test a b) = 2 + labels test + labels a + labels b
  labels (Call symbol args) = labels_all args
  labels (Serve service e) = labels e
  labels (Ask service) = 0

  pub labels_ptr : PointerExpr → ℕ
  labels_ptr Null = 0
  labels_ptr (FromInteger e) = labels e
  labels_ptr (Function symbol) = 0
  labels_ptr (Object symbol offset size) = 0
  labels_ptr (InFrame offset size) = 0
  labels_ptr (VariablePtr x) = 0
  labels_ptr (AssignPtr x e) = labels_ptr e
  labels_ptr (Member offset rule p) = labels_ptr p
  labels_ptr (Element minus size p i) = labels_ptr p + labels i
  labels_ptr (ElementAfter size i p) = labels i + labels_ptr p
  labels_ptr (LoadPtr place p) = labels_ptr p
  labels_ptr (StorePtr place p e) = labels_ptr p + labels_ptr e
  labels_ptr (Advance x minus size i old) = labels i
  labels_ptr (AdvanceAt place p minus size i old) = labels_ptr p + labels i
  labels_ptr (ChoosePtr test a b) = 2 + labels test + labels_ptr a + labels_ptr b
  labels_ptr (CallPtr symbol args) = labels_all args
  labels_ptr (Alloc e) = 1 + labels e
  labels_ptr (SetBounds q n) = labels_ptr q + labels n
  labels_ptr (NarrowBounds p q n) = labels_ptr p + labels_ptr q + labels n
  labels_ptr (CopyBounds q r) = labels_ptr q + labels_ptr r
  labels_ptr (InitBounds q) = labels_ptr q
  labels_ptr (BoundOf upper q) = labels_ptr q

  pub labels_all : Arguments → ℕ
  labels_all NoMore = 0
  labels_all (WithNumber e rest) = labels e + labels_all rest
  labels_all (WithPointer p rest) = labels_ptr p + labels_all rest

-- ---- pieces of code

-- full bounds into b, by a number that is free
abbrev pub full : (b free : ℕ) → List FatStep
full b free = s.Const free 0 ∷ s.Make b free free ∷ []

-- the number n more than a into `to`, by a number that is free
abbrev pub offset_by : (n to a free : ℕ) → List FatStep
offset_by n to a free = s.Const free n ∷ s.Arith to Add U64 a free ∷ []

-- a number times a size, by a number that is free
abbrev pub scaled : (size a free : ℕ) → List FatStep
scaled size a free = s.Const free size ∷ s.Arith a Mul U64 a free ∷ []

-- the bounds of the pointer in d under a member's rule
abbrev pub ruled : Rule → (d : ℕ) → List FatStep
ruled Keep d = []
ruled (MeetRule offset size) d = offset_by offset (d + 4) d (d + 2) ++ (s.Const (d + 2) size ∷ s.Make (d + 2 + 1) (d + 4) (d + 2) ∷ s.Meet (d + 1) (d + 1) (d + 2 + 1) ∷ [])

abbrev pub before_or_after : (old : Bool) → ℕ → ℕ → ℕ
before_or_after old before after = if old then before else after

-- where arguments stand
abbrev pub arguments_at : Arguments → ℕ → List (ℕ × Option ℕ)
arguments_at NoMore d = []
arguments_at (WithNumber e rest) d = (d, None) ∷ arguments_at rest (d + 2)
arguments_at (WithPointer p rest) d = (d, Some (d + 1)) ∷ arguments_at rest (d + 2)

-- ---- expressions
abbrev mutual
  pub code : NumberExpr → (d l : ℕ) → List FatStep
  code (Word n) d l = s.Const d n ∷ []
  code (Variable x) d l = s.Copy d x ∷ []
  code (Assign x e) d l = code e d l ++ (s.Copy x d ∷ [])
  code (Operate op kind a b) d l = code a d l ++ (code b (d + 2) (l + labels a) ++ (s.Arith d op kind d (d + 2) ∷ []))
  code (Compare op kind a b) d l = code a d l ++ (code b (d + 2) (l + labels a) ++ (s.Compare d op kind d (d + 2) ∷ []))
  code (Convert kind e) d l = code e d l ++ (s.Extend d d kind ∷ [])
  code (AsNumber p) d l = code_ptr p d l
  code (Load kind place p) d l = code_ptr p d l ++ (s.Judge d (size_of kind) (d + 1) false place ∷ s.Load d d kind ∷ [])
  code (Store kind place p e) d l = code_ptr p d l ++ (code e (d + 2) (l + labels_ptr p) ++ (s.Judge d (size_of kind) (d + 1) true place ∷ s.Store d (d + 2) kind ∷ s.Copy d (d + 2) ∷ []))
  code (Update x kind op common e old) d l = code e d l ++ (s.Copy (d + 2) x ∷ s.Arith d op common (d + 2) d ∷ s.Extend d d kind ∷ s.Copy x d ∷ s.Copy d (before_or_after old (d + 2) d) ∷ [])
  code (UpdateAt kind place p op common e old) d l = code_ptr p d l ++ (code e (d + 2) (l + labels_ptr p) ++ (
      s.Judge d (size_of kind) (d + 1) false place ∷ s.Load d (d + 4) kind ∷ s.Arith (d + 2) op common (d + 4) (d + 2) ∷ s.Extend (d + 2) (d + 2) kind
      ∷ s.Judge d (size_of kind) (d + 1) true place ∷ s.Store d (d + 2) kind ∷ s.Copy d (before_or_after old (d + 4) (d + 2)) ∷ []))
  code (And a b) d l = code a d (l + 3) ++ (s.JumpIf d l ∷ s.Jump (l + 1) ∷ s.Label l ∷ (code b d (l + 3 + labels a) ++ (s.JumpIf d (l + 2) ∷ s.Jump (l + 1) ∷ s.Label (l + 2) ∷ s.Const d 1 ∷ s.Label (l + 1) ∷ [])))
  code (Or a b) d l = code a d (l + 2) ++ (s.JumpIf d l ∷ (code b d (l + 2 + labels a) ++ (s.JumpIf d l ∷ s.Jump (l + 1) ∷ s.Label l ∷ s.Const d 1 ∷ s.Label (l + 1) ∷ [])))
  code (Choose test a b) d l = code test d (l + 2) ++ (s.JumpIf d l ∷ (code b d (l + 2 + labels test) ++ (s.Jump (l + 1) ∷ s.Label l ∷ (code a d (l + 2 + labels test + labels b) ++ (s.Label (l + 1) ∷ [])))))
  code (Call symbol args) d l = codes args d l ++ (s.Call symbol (arguments_at args d) (Some d) None ∷ [])
  code (Serve service e) d l = code e d l ++ (s.Service service (Some d) (Some d) ∷ [])
  code (Ask service) d l = s.Service service None (Some d) ∷ []

  pub code_ptr : PointerExpr → (d l : ℕ) → List FatStep
  code_ptr Null d l = s.Const d 0 ∷ s.Make (d + 1) d d ∷ []
  code_ptr (FromInteger e) d l = code e d l ++ full (d + 1) (d + 2)
  code_ptr (Function symbol) d l = s.Place d (d + 1) (Some symbol) 0 1 ∷ []
  code_ptr (Object symbol offset size) d l = s.Place d (d + 1) (Some symbol) offset size ∷ []
  code_ptr (InFrame offset size) d l = s.Place d (d + 1) None offset size ∷ []
  code_ptr (VariablePtr x) d l = s.Copy d x ∷ s.Copy (d + 1) (x + 1) ∷ []
  code_ptr (AssignPtr x e) d l = code_ptr e d l ++ (s.Copy x d ∷ s.Copy (x + 1) (d + 1) ∷ [])
  code_ptr (Member offset rule p) d l = code_ptr p d l ++ (ruled rule d ++ offset_by offset d d (d + 2))
  code_ptr (Element minus size p i) d l = code_ptr p d l ++ (code i (d + 2) (l + labels_ptr p) ++ (scaled size (d + 2) (d + 4) ++ (s.Arith d (plus_or_minus minus) U64 d (d + 2) ∷ [])))
  code_ptr (ElementAfter size i p) d l = code i d l ++ (code_ptr p (d + 2) (l + labels i) ++ (scaled size d (d + 4) ++ (s.Arith d Add U64 (d + 2) d ∷ s.Copy (d + 1) (d + 2 + 1) ∷ [])))
  code_ptr (LoadPtr place p) d l = code_ptr p d l ++ (s.Judge d 8 (d + 1) false place ∷ s.LoadPtr d d (d + 1) ∷ [])
  code_ptr (StorePtr place p e) d l = code_ptr p d l ++ (code_ptr e (d + 2) (l + labels_ptr p) ++ (s.Judge d 8 (d + 1) true place ∷ s.StorePtr d (d + 2) (d + 2 + 1) ∷ s.Copy d (d + 2) ∷ s.Copy (d + 1) (d + 2 + 1) ∷ []))
  code_ptr (Advance x minus size i old) d l = code i d l ++ (scaled size d (d + 2) ++ (
      s.Copy (d + 2) x ∷ s.Arith d (plus_or_minus minus) U64 (d + 2) d ∷ s.Copy x d ∷ s.Copy d (before_or_after old (d + 2) d) ∷ s.Copy (d + 1) (x + 1) ∷ []))
  code_ptr (AdvanceAt place p minus size i old) d l = code_ptr p d l ++ (code i (d + 2) (l + labels_ptr p) ++ (scaled size (d + 2) (d + 4) ++ (
      s.Judge d 8 (d + 1) false place ∷ s.LoadPtr d (d + 4) (d + 4 + 1) ∷ s.Arith (d + 2) (plus_or_minus minus) U64 (d + 4) (d + 2)
      ∷ s.Judge d 8 (d + 1) true place ∷ s.StorePtr d (d + 2) (d + 4 + 1) ∷ s.Copy d (before_or_after old (d + 4) (d + 2)) ∷ s.Copy (d + 1) (d + 4 + 1) ∷ [])))
  code_ptr (ChoosePtr test a b) d l = code test d (l + 2) ++ (s.JumpIf d l ∷ (code_ptr b d (l + 2 + labels test) ++ (s.Jump (l + 1) ∷ s.Label l ∷ (code_ptr a d (l + 2 + labels test + labels_ptr b) ++ (s.Label (l + 1) ∷ [])))))
  code_ptr (CallPtr symbol args) d l = codes args d l ++ (s.Call symbol (arguments_at args d) (Some d) (Some (d + 1)) ∷ [])
  code_ptr (Alloc e) d l = code e d (l + 1) ++ (s.Service in_c.Alloc (Some d) (Some (d + 2)) ∷ s.JumpIf (d + 2) l ∷ s.Const d 0 ∷ s.Label l ∷ s.Make (d + 1) (d + 2) d ∷ s.Copy d (d + 2) ∷ [])
  code_ptr (SetBounds q n) d l = code_ptr q d l ++ (code n (d + 2) (l + labels_ptr q) ++ (s.Make (d + 1) d (d + 2) ∷ []))
  code_ptr (NarrowBounds p q n) d l = code_ptr p d l ++ (code_ptr q (d + 2) (l + labels_ptr p) ++ (code n (d + 4) (l + labels_ptr p + labels_ptr q) ++ (s.Make (d + 1) d (d + 4) ∷ s.Meet (d + 1) (d + 2 + 1) (d + 1) ∷ [])))
  code_ptr (CopyBounds q r) d l = code_ptr q d l ++ (code_ptr r (d + 2) (l + labels_ptr q) ++ (s.Copy (d + 1) (d + 2 + 1) ∷ []))
  code_ptr (InitBounds q) d l = code_ptr q d l ++ full (d + 1) (d + 2)
  code_ptr (BoundOf upper q) d l = code_ptr q d l ++ (s.Bound d (d + 1) upper ∷ [])

  pub codes : Arguments → (d l : ℕ) → List FatStep
  codes NoMore d l = []
  codes (WithNumber e rest) d l = code e d l ++ codes rest (d + 2) (l + labels e)
  codes (WithPointer p rest) d l = code_ptr p d l ++ codes rest (d + 2) (l + labels_ptr p)

-- ---- effects

abbrev pub labels_effect : Effect → ℕ
labels_effect Nothing = 0
labels_effect (OfNumber e) = labels e
labels_effect (OfPointer p) = labels_ptr p
labels_effect (CopyStruct size scalars to_place to from_place from) = labels_ptr to + labels_ptr from

-- a scalar at an offset is copied from the struct at d + 2 to the one at d
abbrev pub copied : (offset : ℕ) → Option IntKind → (d : ℕ) → List FatStep
copied offset None d = offset_by offset (d + 6) (d + 2) (d + 4) ++ (s.LoadPtr (d + 6) (d + 6) (d + 6 + 1) ∷ []) ++ offset_by offset (d + 4) d (d + 4) ++ (s.StorePtr (d + 4) (d + 6) (d + 6 + 1) ∷ [])
copied offset (Some kind) d = offset_by offset (d + 6) (d + 2) (d + 4) ++ (s.Load (d + 6) (d + 6) kind ∷ []) ++ offset_by offset (d + 4) d (d + 4) ++ (s.Store (d + 4) (d + 6) kind ∷ [])

abbrev pub copied_all : List Scalar → (d : ℕ) → List FatStep
copied_all [] d = []
copied_all (x ∷ rest) d = copied x.offset x.kind d ++ copied_all rest d

abbrev pub code_effect : Effect → (d l : ℕ) → List FatStep
code_effect Nothing d l = []
code_effect (OfNumber e) d l = code e d l
code_effect (OfPointer p) d l = code_ptr p d l
code_effect (CopyStruct size scalars to_place to from_place from) d l = code_ptr to d l ++ (code_ptr from (d + 2) (l + labels_ptr to) ++ (
    s.Extend (d + 2) (d + 2) U64 ∷ s.Judge (d + 2) size (d + 2 + 1) false from_place ∷ s.Extend d d U64 ∷ s.Judge d size (d + 1) true to_place ∷ copied_all scalars d))

-- ---- statements

abbrev pub labels_of : Statement → ℕ
labels_of Skip = 0
labels_of (Do e) = labels_effect e
labels_of (Then a b) = labels_of a + labels_of b
labels_of (If test a b) = 2 + labels test + labels_of a + labels_of b
labels_of (While test body) = 3 + labels test + labels_of body
labels_of (DoWhile body test) = 3 + labels test + labels_of body
labels_of (For test step body) = 4 + labels test + labels_effect step + labels_of body
labels_of Break = 0
labels_of Continue = 0
labels_of Return = 0
labels_of (ReturnNumber e) = labels e
labels_of (ReturnPtr p) = labels_ptr p

-- `break` goes to the label lb, and `continue` to lc
abbrev pub code_of : Statement → (d l lb lc : ℕ) → List FatStep
code_of Skip d l lb lc = []
code_of (Do e) d l lb lc = code_effect e d l
code_of (Then a b) d l lb lc = code_of a d l lb lc ++ code_of b d (l + labels_of a) lb lc
code_of (If test a b) d l lb lc = code test d (l + 2) ++ (s.JumpIf d l ∷ (code_of b d (l + 2 + labels test) lb lc ++ (s.Jump (l + 1) ∷ s.Label l ∷ (code_of a d (l + 2 + labels test + labels_of b) lb lc ++ (s.Label (l + 1) ∷ [])))))
code_of (While test body) d l lb lc = s.Label l ∷ (code test d (l + 3) ++ (s.JumpIf d (l + 2) ∷ s.Jump (l + 1) ∷ s.Label (l + 2) ∷ (code_of body d (l + 3 + labels test) (l + 1) l ++ (s.Jump l ∷ s.Label (l + 1) ∷ []))))
code_of (DoWhile body test) d l lb lc = s.Label l ∷ (code_of body d (l + 3 + labels test) (l + 1) (l + 2) ++ (s.Label (l + 2) ∷ (code test d (l + 3) ++ (s.JumpIf d l ∷ s.Label (l + 1) ∷ []))))
code_of (For test step body) d l lb lc = s.Label l ∷ (code test d (l + 4) ++ (s.JumpIf d (l + 2) ∷ s.Jump (l + 1) ∷ s.Label (l + 2) ∷ (code_of body d (l + 4 + labels test) (l + 1) (l + 3)
    ++ (s.Label (l + 3) ∷ (code_effect step d (l + 4 + labels test + labels_of body) ++ (s.Jump l ∷ s.Label (l + 1) ∷ []))))))
code_of Break d l lb lc = s.Jump lb ∷ []
code_of Continue d l lb lc = s.Jump lc ∷ []
code_of Return d l lb lc = s.Give None None ∷ []
code_of (ReturnNumber e) d l lb lc = code e d l ++ (s.Give (Some d) None ∷ [])
code_of (ReturnPtr p) d l lb lc = code_ptr p d l ++ (s.Give (Some d) (Some (d + 1)) ∷ [])

-- ---- functions

-- the parameters of the frame arrive in temporaries from t on, and are written there
abbrev pub arrivals : List Parameter → (t d : ℕ) → List FatStep
arrivals [] t d = []
arrivals (Private x kind ∷ rest) t d = arrivals rest t d
arrivals (Framed offset (Some kind) ∷ rest) t d = s.Place d (d + 1) None offset (size_of kind) ∷ s.Store d t kind ∷ arrivals rest (t + 1) d
arrivals (Framed offset None ∷ rest) t d = s.Place d (d + 1) None offset 8 ∷ s.StorePtr d t (t + 1) ∷ arrivals rest (t + 2) d

-- for each of these temporaries, whether it is bounds
abbrev pub arrived : List Parameter → List Bool
arrived [] = []
arrived (Private x kind ∷ rest) = arrived rest
arrived (Framed offset (Some kind) ∷ rest) = false ∷ arrived rest
arrived (Framed offset None ∷ rest) = false ∷ true ∷ arrived rest

abbrev pub is_pointer : Option IntKind → Bool
is_pointer None = true
is_pointer (Some kind) = false

abbrev pub fat_parameters : List Parameter → List FatParameter
fat_parameters [] = []
fat_parameters (Private x kind ∷ rest) = record { private = true; pointer = is_pointer kind } ∷ fat_parameters rest
fat_parameters (Framed offset kind ∷ rest) = record { private = false; pointer = is_pointer kind } ∷ fat_parameters rest

-- numbers and bounds in turn
abbrev pub in_turn : ℕ → List Bool
in_turn zero = []
in_turn (suc n) = false ∷ true ∷ in_turn n

-- how many temporaries are used beside those, in pairs: at most 80 values wait, and eight are free for the code of one expression
abbrev pub most_pairs : ℕ
most_pairs = 88

-- label 0 is the end of the function, where a `break` or `continue` outside of a loop would go
abbrev pub steps_of : FunctionOfC → List FatStep
steps_of f = let private = length f.privates in
    let base = private + length (arrived f.parameters) in
    arrivals f.parameters private base ++ (code_of f.body base 1 0 0 ++ (s.Label 0 ∷ []))

abbrev pub fat_function : (name : ℕ) → FunctionOfC → FatFun
fat_function name f = record {
  name = name;
  private = length f.privates;
  arrived = length (arrived f.parameters);
  temps = length (arrived f.parameters) + 2 * most_pairs;
  bounds = f.privates ++ arrived f.parameters ++ in_turn most_pairs;
  frame = f.frame;
  steps = steps_of f;
}
