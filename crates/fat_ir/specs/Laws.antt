-- What the laws of steps say.
use Rattle.std.specs.Prelude.{◌≡◌, ◌≢◌, ◌+◌, ◌≤◌, ℕ, Bool, true, false, None, List, [], ◌∷◌, ◌++◌}
use Rattle.mx_base.specs.Access.{refusal}
use Rattle.mx_base.specs.World.{World, Access}
use Rattle.fat_ir.specs.declared.step.FatStep.{FatStep}
use Rattle.fat_ir.specs.declared.step.FatStep.TheVariants.{Label, Store, StorePtr, Call, Service}
use Rattle.fat_ir.specs.Values.{Value, Values}
use Rattle.fat_ir.specs.Calls.{Outcome, Comes, Stops, Stuck, Callee, taking_turn}
use Rattle.fat_ir.specs.Step.{Reached, On, Over}

-- ---- worlds before and after

-- a fact about the world in which a function comes back, and one about the world in which the program stops
abbrev pub Leads : (came stopped : World → Type 0) → Outcome → Type 0
Leads came stopped (Comes v w) = came w
Leads came stopped (Stops why w) = stopped w
Leads came stopped Stuck = Unit {0}

-- one fact for both
abbrev pub Leaves : (World → Type 0) → Outcome → Type 0
Leaves fact outcome = Leads fact fact outcome

-- a relation that each call leaves between the world before it and the world after it
abbrev pub LeftByCalls : (World → World → Type 0) → Callee → Type 0
LeftByCalls relation call = (f : ℕ) (args : List Value) (w : World) → Leaves (relation w) (call f args w)

-- the same of what is called outside, as long as the C functions do so
abbrev pub LeftOutside : (World → World → Type 0) → (Callee → Callee) → Type 0
LeftOutside relation outside = (own : Callee) → LeftByCalls relation own → LeftByCalls relation (outside own)

-- one that is outside: it takes a turn and calls the C function of its own number
abbrev pub passes_on : Callee → Callee
passes_on own g args w = taking_turn w (λ u. own g args u)

abbrev pub NoMoreTurns : World → World → Type 0
NoMoreTurns before after = after.turns ≤ before.turns

-- the output before stands in front of the output after
pub record OutputGrows (before after : World) : Type 0 where
  pub more : List ℕ
  pub is : after.guest.out ≡ before.guest.out ++ more

-- the same of the accesses done
pub record AccessesGrow (before after : World) : Type 0 where
  pub more : List Access
  pub is : after.accesses ≡ before.accesses ++ more

-- none of the accesses was refused
abbrev pub NoneRefused : List Access → Type 0
NoneRefused [] = Unit {0}
NoneRefused (a ∷ rest) = (refusal a.write a.size a.at ≡ None) × NoneRefused rest

-- no write among the accesses has the byte at x
abbrev pub NotWritten : ℕ → List Access → Type 0
NotWritten x [] = Unit {0}
NotWritten x (a ∷ rest) = (a.write ≡ true → a.at ≤ x → a.at + a.size ≤ x) × NotWritten x rest

-- the accesses between two worlds: none was refused, and every byte that none of them wrote is as before
pub record Traced (before after : World) : Type 0 where
  pub more : List Access
  pub is : after.accesses ≡ before.accesses ++ more
  pub allowed : NoneRefused more
  pub others : (x : ℕ) → NotWritten x more → after.bytes x ≡ before.bytes x

-- the accesses between two worlds: none was refused, whatever else changed memory
pub record AccessesAllowed (before after : World) : Type 0 where
  pub more : List Access
  pub is : after.accesses ≡ before.accesses ++ more
  pub allowed : NoneRefused more

-- what the events of code outside of a program do to a world, which may be anything; functions of numbers tell which event it is, as the
-- registers of a processor do
abbrev pub Events : Type 0
Events = List (ℕ → ℕ) → World → World

-- a run goes in pieces, each of which is an event outside, or one of steps, where memory changes by the accesses alone
pub data InPieces (event : Events) : World → World → Type 0 where
  PieceOfSteps : (before : World) → (after : World) → (is : Traced before after) → InPieces event before after
  EventOutside : (before : World) → (after : World) → (which : List (ℕ → ℕ)) → (is : event which before ≡ after) → InPieces event before after
  Joined : (before : World) → (middle : World) → (after : World) → (first : InPieces event before middle) → (rest : InPieces event middle after) → InPieces event before after

-- the data frame stands where it stood
abbrev pub SameFrame : World → World → Type 0
SameFrame before after = after.data_sp ≡ before.data_sp

abbrev pub Anywhere : World → World → Type 0
Anywhere before after = Unit {0}

-- each call that comes back leaves the data frame of its caller where it stood
abbrev pub FramesGivenBack : Callee → Type 0
FramesGivenBack call = (f : ℕ) (args : List Value) (w : World) → Leads (SameFrame w) (Anywhere w) (call f args w)

-- the stack of legacy code stands where it stood
abbrev pub SameLegacyStack : World → World → Type 0
SameLegacyStack before after = after.legacy_sp ≡ before.legacy_sp

-- each call that comes back leaves it so
abbrev pub LegacyStackGivenBack : Callee → Type 0
LegacyStackGivenBack call = (f : ℕ) (args : List Value) (w : World) → Leads (SameLegacyStack w) (Anywhere w) (call f args w)

-- ---- single steps

-- a fact about the world that a step leaves
abbrev pub WorldAfter : (World → Type 0) → Reached → Type 0
WorldAfter fact (On going s) = fact s.world
WorldAfter fact (Over outcome) = Leaves fact outcome

-- a fact about the values where steps go on
abbrev pub ValuesAfter : (Values → Type 0) → Reached → Type 0
ValuesAfter fact (On going s) = fact s.values
ValuesAfter fact (Over outcome) = Unit {0}

-- a value that is none of these
abbrev pub IsNone : ℕ → List ℕ → Type 0
IsNone v [] = Unit {0}
IsNone v (x ∷ xs) = (v ≢ x) × IsNone v xs

-- no call, no service, and no write to memory
abbrev pub is_quiet : FatStep → Bool
is_quiet (Store p from kind) = false
is_quiet (StorePtr p from bounds) = false
is_quiet (Call symbol args to bounds) = false
is_quiet (Service service arg to) = false
is_quiet _ = true

-- what such a step leaves: all but the accesses done, and the megabytes whose bounds were asked for
pub record LeavesMemory (before after : World) : Type 0 where
  pub bytes : after.bytes ≡ before.bytes
  pub kept : after.store.kept ≡ before.store.kept
  pub guest : after.guest ≡ before.guest
  pub turns : after.turns ≡ before.turns
  pub far : after.far ≡ before.far
  pub data_sp : after.data_sp ≡ before.data_sp
  pub legacy_sp : after.legacy_sp ≡ before.legacy_sp

-- ---- lists of steps

-- no step is this label
abbrev pub LacksLabel : ℕ → List FatStep → Type 0
LacksLabel label [] = Unit {0}
LacksLabel label (Label n ∷ steps) = (label ≢ n) × LacksLabel label steps
LacksLabel label (_ ∷ steps) = LacksLabel label steps
