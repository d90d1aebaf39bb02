-- What the laws of the meaning of C say.
use Rattle.std.specs.Prelude.{◌≡◌, ◌≢◌, ◌≤◌, ℕ, ◌+◌, ◌==◌, if◌then◌else◌, true, false, Option, None, Some, List, [], ◌∷◌, ◌++◌}
use Rattle.mx_base.specs.declared.numbers.IntKind.{IntKind}
use Rattle.mx_base.specs.Numbers.{size_of}
use Rattle.mx_base.specs.Bounds.{is_outside}
use Rattle.mx_base.specs.BoundsStore.{granule}
use Rattle.mx_base.specs.World.{World, Access, Rooted, Traced, Log}
use Rattle.fat_ir.specs.declared.step.FatStep.{FatStep}
use Rattle.fat_ir.specs.declared.step.FatStep.TheVariants.{Label, Jump, JumpIf}
use Rattle.fat_ir.specs.Laws.{NoneRefused, NotWritten}
use Rattle.bounds_plan.specs.meaning.Core.{Scalar, Effect, Nothing, OfNumber, OfPointer, CopyStruct, Statement, Skip, Do, Then, If, While, DoWhile, For, Break, Continue, Return, ReturnNumber, ReturnPtr}
use Rattle.bounds_plan.specs.meaning.State.{Passed}
use Rattle.bounds_plan.specs.meaning.Expressions.{Answer, Comes, Stops, CalleeOfC}
use Rattle.bounds_plan.specs.meaning.Functions.{Linked, taking_turn}

-- a relation between world and log before, and world and log after
abbrev pub Relation : Type 1
Relation = World → Log → World → Log → Type 0

-- a fact about the end of a call
abbrev pub Leaves : (World → Log → Type 0) → Answer → Type 0
Leaves fact (Comes v w log) = fact w log
Leaves fact (Stops why w log) = fact w log

abbrev pub LeftByCalls : Relation → CalleeOfC → Type 0
LeftByCalls relation call = (f : ℕ) (args : List Passed) (w : World) (log : Log) → Leaves (relation w log) (call f args w log)

-- the same of what is called outside, as long as the C functions do so
abbrev pub LeftOutside : Relation → (CalleeOfC → CalleeOfC) → Type 0
LeftOutside relation outside = (own : CalleeOfC) → LeftByCalls relation own → LeftByCalls relation (outside own)

-- one that is outside: it takes a turn and calls the C function of its own number
abbrev pub passes_on : CalleeOfC → CalleeOfC
passes_on own g args w log = taking_turn w log (λ u. own g args u log)

abbrev pub NoMoreTurns : Relation
NoMoreTurns w log u after = u.turns ≤ w.turns

-- the output before stands in front of the output after
pub record OutputGrows (w : World) (log : Log) (u : World) (after : Log) : Type 0 where
  pub more : List ℕ
  pub is : u.guest.out ≡ w.guest.out ++ more

-- ---- accesses within their bounds

abbrev pub accesses_of : List Traced → List Access
accesses_of [] = []
accesses_of (t ∷ rest) = t.access ∷ accesses_of rest

abbrev pub LiesWithin : Option Rooted → Access → Type 0
LiesWithin None a = Unit {0}
LiesWithin (Some r) a = is_outside a.at a.size r.bounds ≡ false

abbrev pub AllWithin : List Traced → Type 0
AllWithin [] = Unit {0}
AllWithin (t ∷ rest) = LiesWithin t.bounds t.access × AllWithin rest

-- the accesses between two worlds: the log has them with their bounds, each lies within its own, and none was refused
pub record Judged (w : World) (log : Log) (u : World) (after : Log) : Type 0 where
  pub more : List Traced
  pub trace : after.trace ≡ log.trace ++ more
  pub accesses : u.accesses ≡ w.accesses ++ accesses_of more
  pub within : AllWithin more
  pub allowed : NoneRefused (accesses_of more)

-- none of the accesses is a write of 8 bytes, as every writing of a pointer is, that begins in the granule g
abbrev pub NotKept : ℕ → List Access → Type 0
NotKept g [] = Unit {0}
NotKept g (a ∷ rest) = (a.write ≡ true → a.size ≡ 8 → g ≢ granule a.at) × NotKept g rest

-- and memory and the bounds that are kept changed by them alone: every byte that none of them wrote is as before, and so is what is kept
-- for every granule in which no write of 8 bytes begins
pub record OnlyWrites (w : World) (log : Log) (u : World) (after : Log) : Type 0 where
  pub judged : Judged w log u after
  pub bytes : (x : ℕ) → NotWritten x (accesses_of judged.more) → u.bytes x ≡ w.bytes x
  pub kept : (g : ℕ) → NotKept g (accesses_of judged.more) → u.store.kept g ≡ w.store.kept g

-- ---- runs in pieces

-- what the events of code outside of a program do to a world and its log, which may be anything; functions of numbers tell which event it
-- is, as the registers of a processor do
abbrev pub Events : Type 0
Events = List (ℕ → ℕ) → World → Log → World × Log

-- a run goes in pieces, each of which is an event outside, or one of C, where memory and the bounds that are kept change by writes alone
pub data InPieces (event : Events) : World → Log → World → Log → Type 0 where
  PieceOfC : (w : World) → (log : Log) → (u : World) → (after : Log) → (is : OnlyWrites w log u after) → InPieces event w log u after
  EventOutside : (w : World) → (log : Log) → (u : World) → (after : Log) → (which : List (ℕ → ℕ)) → (is : event which w log ≡ (u, after)) → InPieces event w log u after
  Joined : (w : World) → (log : Log) → (u : World) → (middle : Log) → (v : World) → (after : Log) → (first : InPieces event w log u middle) → (rest : InPieces event u middle v after) → InPieces event w log v after

-- ---- structs that are copied

abbrev pub scalar_size : Option IntKind → ℕ
scalar_size None = 8
scalar_size (Some kind) = size_of kind

-- the largest size of a type
abbrev pub most_bytes : ℕ
most_bytes = 16777216

-- scalars lie in their struct
abbrev pub AllInside : ℕ → List Scalar → Type 0
AllInside size [] = Unit {0}
AllInside size (x ∷ rest) = (x.offset + scalar_size x.kind ≤ size) × AllInside size rest

-- they do, and the struct is no larger than may be
abbrev pub LieInside : ℕ → List Scalar → Type 0
LieInside size scalars = (size ≤ most_bytes) × AllInside size scalars

-- a fact about each struct that is copied, by its size and its scalars
abbrev pub CopyFact : Type 1
CopyFact = ℕ → List Scalar → Type 0

abbrev pub OfEffect : CopyFact → Effect → Type 0
OfEffect fact Nothing = Unit {0}
OfEffect fact (OfNumber e) = Unit {0}
OfEffect fact (OfPointer p) = Unit {0}
OfEffect fact (CopyStruct size scalars to_place to from_place from) = fact size scalars

abbrev pub OfCopies : CopyFact → Statement → Type 0
OfCopies fact Skip = Unit {0}
OfCopies fact (Do e) = OfEffect fact e
OfCopies fact (Then a b) = OfCopies fact a × OfCopies fact b
OfCopies fact (If test a b) = OfCopies fact a × OfCopies fact b
OfCopies fact (While test body) = OfCopies fact body
OfCopies fact (DoWhile body test) = OfCopies fact body
OfCopies fact (For test step body) = OfEffect fact step × OfCopies fact body
OfCopies fact Break = Unit {0}
OfCopies fact Continue = Unit {0}
OfCopies fact Return = Unit {0}
OfCopies fact (ReturnNumber e) = Unit {0}
OfCopies fact (ReturnPtr p) = Unit {0}

-- in every function of a program the scalars of each struct that is copied lie inside it
abbrev pub CopiesWhole : (ℕ → Linked) → Type 0
CopiesWhole program = (f : ℕ) → OfCopies LieInside (program f).fun.body

-- ---- labels

-- the label k is none of the n labels from l on
pub record IsOutside (k l n : ℕ) : Type 0 where
  pub is : l ≤ k → l + n ≤ k

-- how often a label stands in a list of steps
abbrev pub times : ℕ → List FatStep → ℕ
times k [] = 0
times k (Label n ∷ rest) = (if k == n then 1 else 0) + times k rest
times k (_ ∷ rest) = times k rest

-- a fact of each label to which a list of steps jumps
abbrev pub JumpsTo : (ℕ → Type 0) → List FatStep → Type 0
JumpsTo fact [] = Unit {0}
JumpsTo fact (Jump n ∷ rest) = fact n × JumpsTo fact rest
JumpsTo fact (JumpIf from n ∷ rest) = fact n × JumpsTo fact rest
JumpsTo fact (_ ∷ rest) = JumpsTo fact rest
