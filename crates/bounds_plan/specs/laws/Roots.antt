-- Where bounds come from: each pair has a root, which was made, or is full for a cause that happened, and it lies within its root.
use Rattle.std.specs.Prelude.{ℕ, ◌+◌, ◌≡◌, true, ◌≤◌, ◌<◌, Option, None, Some, List, [], ◌∷◌, ◌++◌, length}
use Rattle.mx_base.specs.declared.limits.Bounds.{Bounds}
use Rattle.mx_base.specs.Bounds.{full_bounds, moved, bounds_at}
use Rattle.mx_base.specs.BoundsStore.{Kept, BoundsStore}
use Rattle.mx_base.specs.World.{World, Cause, Root, MadeAt, FullBy, Rooted, Traced, Log}
use Rattle.fat_ir.specs.Step.{Located, ObjectAt, FunctionAt}
use Rattle.bounds_plan.specs.meaning.Core.{NumberExpr, Word, Variable, Assign, Operate, Compare, Convert, AsNumber, Load, Store, Update, UpdateAt, And, Or, Choose, Call, Serve, Ask, PointerExpr, Null, FromInteger, Function, Object, InFrame, VariablePtr, AssignPtr, Member, Element, ElementAfter, LoadPtr, StorePtr, Advance, AdvanceAt, ChoosePtr, CallPtr, Alloc, SetBounds, NarrowBounds, CopyBounds, InitBounds, BoundOf, Arguments, NoMore, WithNumber, WithPointer, Effect, Nothing, OfNumber as ForNumber, OfPointer as ForPointer, CopyStruct, Statement, Skip, Do, Then, If, While, DoWhile, For, Break, Continue, Return, ReturnNumber, ReturnPtr}
use Rattle.bounds_plan.specs.meaning.State.{Passed, OfNumber, OfPointer}
use Rattle.bounds_plan.specs.meaning.Expressions.{Answer, Comes, Stops, CalleeOfC}
use Rattle.bounds_plan.specs.meaning.Functions.{Parameter, Private, Framed, Framed_variable, Linked}
use Rattle.fat_ir.specs.Laws.{NoneRefused}
use Rattle.bounds_plan.specs.laws.Laws.{scalar_size, accesses_of, AllWithin}
use Rattle.bounds_plan.specs.steps.Compiled.{sorts_of}

-- ---- roots

-- no address of a pair is outside of the other one
abbrev pub LiesIn : Bounds → Bounds → Type 0
LiesIn b root = (root.lb ≤ b.lb) × (b.ub ≤ root.ub)

-- at this place, among the first n of those that were made, stand bounds within which b lies
pub record MadeBy (made : List Bounds) (n place : ℕ) (b : Bounds) : Type 0 where
  pub before : List Bounds
  pub root : Bounds
  pub after : List Bounds
  pub is : made ≡ before ++ root ∷ after
  pub at : length before ≡ place
  pub by_then : place < n
  pub inside : LiesIn b root

-- the cause is among the first n that happened
pub record HappenedBy (causes : List Cause) (n : ℕ) (cause : Cause) : Type 0 where
  pub before : List Cause
  pub after : List Cause
  pub is : causes ≡ before ++ cause ∷ after
  pub by_then : length before < n

-- bounds have this root, by the time that so many were made and so many causes had happened
abbrev pub RootStands : List Bounds → List Cause → (n k : ℕ) → Root → Bounds → Type 0
RootStands made causes n k (MadeAt place) b = MadeBy made n place b
RootStands made causes n k (FullBy cause) b = HappenedBy causes k cause × LiesIn b full_bounds

-- they have it by now
abbrev pub HasRoot : Log → Rooted → Type 0
HasRoot l r = RootStands l.made l.causes (length l.made) (length l.causes) r.root r.bounds

-- ---- logs

-- the bounds of each access had their root when it was done
abbrev pub HadRoot : Log → Traced → Option Rooted → Type 0
HadRoot l t None = Unit {0}
HadRoot l t (Some r) = RootStands l.made l.causes t.made t.causes r.root r.bounds

abbrev pub AllHadRoots : Log → List Traced → Type 0
AllHadRoots l [] = Unit {0}
AllHadRoots l (t ∷ rest) = HadRoot l t t.bounds × AllHadRoots l rest

-- and so have the bounds that are kept for stored pointers
abbrev pub KeptHasRoot : Log → Kept → Option Root → Type 0
KeptHasRoot l k None = ⊥
KeptHasRoot l k (Some root) = HasRoot l record { bounds = k.bounds; root = root }

abbrev pub KeptHaveRoots : BoundsStore → Log → Type 0
KeptHaveRoots s l = (g : ℕ) (k : Kept) → s.kept g ≡ Some k → KeptHasRoot l k (l.roots g)

-- the one list stands in front of the other
pub record Begins {A : Type 0} (front whole : List A) : Type 0 where
  pub more : List A
  pub is : whole ≡ front ++ more

-- all of it in a world and its log, where these bounds were made before the program started
pub record AllRooted (start : List Bounds) (w : World) (l : Log) : Type 0 where
  pub begun : Begins start l.made
  pub kept : KeptHaveRoots w.store l
  pub traced : AllHadRoots l l.trace

-- a log and a later one
pub record LogGrows (l m : Log) : Type 0 where
  pub made : Begins l.made m.made
  pub causes : Begins l.causes m.causes

-- ---- calls

abbrev pub PassedHasRoot : Log → Passed → Type 0
PassedHasRoot l (OfNumber n) = Unit {0}
PassedHasRoot l (OfPointer p) = HasRoot l p.rooted

abbrev pub AllHaveRoots : Log → List Passed → Type 0
AllHaveRoots l [] = Unit {0}
AllHaveRoots l (v ∷ vs) = PassedHasRoot l v × AllHaveRoots l vs

-- what a call leaves: its result has its root too, and the data frame stands where it stood
abbrev pub LeavesRooted : List Bounds → World → Log → Answer → Type 0
LeavesRooted start w l (Comes v u m) = AllRooted start u m × LogGrows l m × PassedHasRoot m v × (u.data_sp ≡ w.data_sp)
LeavesRooted start w l (Stops why u m) = AllRooted start u m × LogGrows l m

-- each call does, with arguments that have their roots
abbrev pub RootedCalls : List Bounds → CalleeOfC → Type 0
RootedCalls start call = (f : ℕ) (args : List Passed) (w : World) (l : Log) → AllRooted start w l → AllHaveRoots l args → LeavesRooted start w l (call f args w l)

-- what is outside does, whatever pairs it hands over or stores, as long as the C functions do
abbrev pub RootedOutside : List Bounds → (CalleeOfC → CalleeOfC) → Type 0
RootedOutside start outside = (own : CalleeOfC) → RootedCalls start own → RootedCalls start (outside own)

-- ---- programs

-- it stands in the list
pub record StandsIn {A : Type 0} (x : A) (list : List A) : Type 0 where
  pub before : List A
  pub after : List A
  pub is : list ≡ before ++ x ∷ after

-- a fact of each symbol that a tree names as an object or function, with offset and size, one of each variable in the frame, and one of
-- each private pointer
abbrev mutual
  pub Names : (ℕ → ℕ → ℕ → Type 0) → (ℕ → ℕ → Type 0) → (ℕ → Type 0) → NumberExpr → Type 0
  Names S F P (Word n) = Unit {0}
  Names S F P (Variable x) = Unit {0}
  Names S F P (Assign x e) = Names S F P e
  Names S F P (Operate op kind a b) = Names S F P a × Names S F P b
  Names S F P (Compare op kind a b) = Names S F P a × Names S F P b
  Names S F P (Convert kind e) = Names S F P e
  Names S F P (AsNumber p) = NamesPtr S F P p
  Names S F P (Load kind place p) = NamesPtr S F P p
  Names S F P (Store kind place p e) = NamesPtr S F P p × Names S F P e
  Names S F P (Update x kind op common e old) = Names S F P e
  Names S F P (UpdateAt kind place p op common e old) = NamesPtr S F P p × Names S F P e
  Names S F P (And a b) = Names S F P a × Names S F P b
  Names S F P (Or a b) = Names S F P a × Names S F P b
  Names S F P (Choose test a b) = Names S F P test × Names S F P a × Names S F P b
  Names S F P (Call symbol args) = NamesAll S F P args
  Names S F P (Serve service e) = Names S F P e
  Names S F P (Ask service) = Unit {0}

  pub NamesPtr : (ℕ → ℕ → ℕ → Type 0) → (ℕ → ℕ → Type 0) → (ℕ → Type 0) → PointerExpr → Type 0
  NamesPtr S F P Null = Unit {0}
  NamesPtr S F P (FromInteger e) = Names S F P e
  NamesPtr S F P (Function symbol) = S symbol 0 1
  NamesPtr S F P (Object symbol offset size) = S symbol offset size
  NamesPtr S F P (InFrame offset size) = F offset size
  NamesPtr S F P (VariablePtr x) = P x
  NamesPtr S F P (AssignPtr x e) = P x × NamesPtr S F P e
  NamesPtr S F P (Member offset rule p) = NamesPtr S F P p
  NamesPtr S F P (Element minus size p i) = NamesPtr S F P p × Names S F P i
  NamesPtr S F P (ElementAfter size i p) = Names S F P i × NamesPtr S F P p
  NamesPtr S F P (LoadPtr place p) = NamesPtr S F P p
  NamesPtr S F P (StorePtr place p e) = NamesPtr S F P p × NamesPtr S F P e
  NamesPtr S F P (Advance x minus size i old) = P x × Names S F P i
  NamesPtr S F P (AdvanceAt place p minus size i old) = NamesPtr S F P p × Names S F P i
  NamesPtr S F P (ChoosePtr test a b) = Names S F P test × NamesPtr S F P a × NamesPtr S F P b
  NamesPtr S F P (CallPtr symbol args) = NamesAll S F P args
  NamesPtr S F P (Alloc e) = Names S F P e
  NamesPtr S F P (SetBounds q n) = NamesPtr S F P q × Names S F P n
  NamesPtr S F P (NarrowBounds p q n) = NamesPtr S F P p × NamesPtr S F P q × Names S F P n
  NamesPtr S F P (CopyBounds q r) = NamesPtr S F P q × NamesPtr S F P r
  NamesPtr S F P (InitBounds q) = NamesPtr S F P q
  NamesPtr S F P (BoundOf upper q) = NamesPtr S F P q

  pub NamesAll : (ℕ → ℕ → ℕ → Type 0) → (ℕ → ℕ → Type 0) → (ℕ → Type 0) → Arguments → Type 0
  NamesAll S F P NoMore = Unit {0}
  NamesAll S F P (WithNumber e rest) = Names S F P e × NamesAll S F P rest
  NamesAll S F P (WithPointer p rest) = NamesPtr S F P p × NamesAll S F P rest

abbrev pub NamesEffect : (ℕ → ℕ → ℕ → Type 0) → (ℕ → ℕ → Type 0) → (ℕ → Type 0) → Effect → Type 0
NamesEffect S F P Nothing = Unit {0}
NamesEffect S F P (ForNumber e) = Names S F P e
NamesEffect S F P (ForPointer p) = NamesPtr S F P p
NamesEffect S F P (CopyStruct size scalars to_place to from_place from) = NamesPtr S F P to × NamesPtr S F P from

abbrev pub NamesStatement : (ℕ → ℕ → ℕ → Type 0) → (ℕ → ℕ → Type 0) → (ℕ → Type 0) → Statement → Type 0
NamesStatement S F P Skip = Unit {0}
NamesStatement S F P (Do e) = NamesEffect S F P e
NamesStatement S F P (Then a b) = NamesStatement S F P a × NamesStatement S F P b
NamesStatement S F P (If test a b) = Names S F P test × NamesStatement S F P a × NamesStatement S F P b
NamesStatement S F P (While test body) = Names S F P test × NamesStatement S F P body
NamesStatement S F P (DoWhile body test) = NamesStatement S F P body × Names S F P test
NamesStatement S F P (For test step body) = Names S F P test × NamesEffect S F P step × NamesStatement S F P body
NamesStatement S F P Break = Unit {0}
NamesStatement S F P Continue = Unit {0}
NamesStatement S F P Return = Unit {0}
NamesStatement S F P (ReturnNumber e) = Names S F P e
NamesStatement S F P (ReturnPtr p) = NamesPtr S F P p

-- the bounds of an object were made before the program started; a function has none
abbrev pub ObjectMade : List Bounds → Located → (offset size : ℕ) → Type 0
ObjectMade start (ObjectAt a) offset size = StandsIn (bounds_at (moved a offset) size) start
ObjectMade start (FunctionAt a) offset size = Unit {0}

-- it is a variable in the frame
abbrev pub IsFramed : List Framed_variable → (offset size : ℕ) → Type 0
IsFramed variables offset size = StandsIn record { offset = offset; size = size } variables

abbrev pub ParametersFramed : List Framed_variable → List Parameter → Type 0
ParametersFramed variables [] = Unit {0}
ParametersFramed variables (Private x kind ∷ rest) = ParametersFramed variables rest
ParametersFramed variables (Framed offset kind ∷ rest) = IsFramed variables offset (scalar_size kind) × ParametersFramed variables rest

-- what a function names has bounds that were made: objects before the program started, and variables of the frame at its entry; and its
-- private pointers have bounds
pub record NamesWhatIsMade (start : List Bounds) (l : Linked) : Type 0 where
  pub parameters : ParametersFramed l.fun.variables l.fun.parameters
  pub body : NamesStatement (λ symbol offset size. ObjectMade start (l.located symbol) offset size) (IsFramed l.fun.variables) (λ x. sorts_of l.fun (x + 1) ≡ true) l.fun.body

abbrev pub AllMade : List Bounds → (ℕ → Linked) → Type 0
AllMade start program = (f : ℕ) → NamesWhatIsMade start (program f)

-- ---- whole runs

-- what a whole run leaves: the log has each access of the world with its bounds, none was refused or left its bounds, and all bounds have roots
pub record RunsWithin (start : List Bounds) (w : World) (l : Log) : Type 0 where
  pub accesses : w.accesses ≡ accesses_of l.trace
  pub allowed : NoneRefused w.accesses
  pub within : AllWithin l.trace
  pub rooted : AllRooted start w l
