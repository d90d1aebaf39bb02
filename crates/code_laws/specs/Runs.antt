-- What the run of the machine comes to from a view, and when values of a function stand in their homes.
use Rattle.std.specs.Prelude.{◌≡◌, ◌⊎◌, ℕ, suc, ◌≤◌, Bool, true, false, Option, None, Some, List, [], ◌∷◌}
use Rattle.mx_base.specs.declared.stops.Stop.{Stop}
use Rattle.mx_base.specs.Bounds.{full_bounds}
use Rattle.mx_base.specs.StopOfC.{StopOfC, OutOfTurns, AccessOfC, stop_in_c}
use Rattle.mx_base.specs.World.{World, Access}
use Rattle.fat_ir.specs.declared.step.FatStep.{FatStep}
use Rattle.fat_ir.specs.Calls.{Outcome, Comes, Stops, Stuck}
use Rattle.fat_ir.specs.Step.{Symbols}
use Rattle.fat_ir.specs.Values.{Held, Nothing, Number, Pair, Values, Value}
use Rattle.x86_forms.specs.declared.instr.Instr.{Instr}
use Rattle.x86_forms.specs.declared.instr.Instr.TheVariants.{CallRel}
use Rattle.obj_file.specs.Finals.{Final, final}
use Rattle.obj_file.specs.Machine.{Ground, State}
use Rattle.obj_file.specs.Runs.{Out, Stopped}
use Rattle.obj_file.specs.Stored.{Stored}
use Rattle.step_code.specs.declared.homes.Home.{Home}
use Rattle.step_code.specs.Pieces.{relative}
use Rattle.step_code.specs.Steps.{Plan, arg_reg}
use Rattle.step_code.specs.Homes.{Assigned}
use Rattle.code_laws.specs.Views.{View, number_home, pair_home}
use Rattle.code_laws.specs.Seen.{Setting, IsSetting, machine_of, Seen, state_of}
use Rattle.code_laws.specs.Laid.{Stands}

-- a run: how it ends, the accesses of C by then, and whether all others kept out of the directory and the tables
abbrev pub Whole : Type 0 → Type 0
Whole X = Final X

unfoldable pub whole : Ground Stored → ℕ → List Access → State Stored → Final Stored
whole g turns before s = final g (record { state = s; turns = turns; accesses = before })

module _ (S : Setting) where
  abbrev pub whole_of : View → Stored → ℕ → Whole Stored
  whole_of v y n = whole (machine_of S) v.world.turns v.world.accesses (state_of v y n)

  -- the same run from another view
  pub record Leads (out : Whole Stored) (v : View) : Type 0 where
    pub memory : Stored
    pub steps : ℕ
    pub same : out ≡ whole_of v memory steps
    pub seen : Seen S v memory

  -- the run stops
  pub record Ended (out : Whole Stored) (why : Stop) (w : World) : Type 0 where
    pub last : State Stored
    pub is : out ≡ record { end = Stopped why last; accesses = w.accesses; clean = true }
    pub guest : last.guest ≡ w.guest
    pub store : last.memory.bounds ≡ w.store

  -- no turn is left
  pub record RunsOut (out : Whole Stored) (w : World) : Type 0 where
    pub last : State Stored
    pub is : out ≡ record { end = Out last; accesses = w.accesses; clean = true }
    pub guest : last.guest ≡ w.guest
    pub store : last.memory.bounds ≡ w.store

module _ (S : Setting) (ok : IsSetting S) where
  -- a piece stands at a view
  pub record Ready (v : View) (y : Stored) (i : Instr) (next : ℕ) : Type 0 where
    pub seen : Seen S v y
    pub stands : Stands S.code v.processor.rip i next

-- ---- values in their homes

abbrev pub IsKnown : Held → Type 0
IsKnown Nothing = ⊥
IsKnown (Number n) = Unit {0}
IsKnown (Pair b) = Unit {0}

abbrev pub IsSort : Bool → Held → Type 0
IsSort b Nothing = Unit {0}
IsSort b (Number n) = b ≡ false
IsSort b (Pair x) = b ≡ true

abbrev pub AtHome : View → Home → Held → Type 0
AtHome v home Nothing = Unit {0}
AtHome v home (Number n) = number_home v home ≡ n
AtHome v home (Pair b) = pair_home v home ≡ b

module _ (units private : ℕ) (steps : List FatStep) (p : Plan) (first last : ℕ → ℕ) (assigned : Assigned units private steps p first last) where
  -- before the step at place i
  pub record In (i : ℕ) (values : Values) (v : View) : Type 0 where
    pub at_home : (x : ℕ) → i ≤ last x → AtHome v (p.home x) (values x)
    pub begun : (x : ℕ) → IsKnown (values x) → first x ≤ i
    pub sorted : (x : ℕ) → IsSort (p.is_bounds x) (values x)

  abbrev pub Has : ℕ → ℕ → Type 0
  Has i x = (first x ≤ i) × (i ≤ last x)

-- ---- arguments in their registers

-- the arguments from the i-th on, and bounds from BNDj on
abbrev pub BoundsStand : Option ℕ → ℕ → Value → View → Type 0
BoundsStand None j x v = x.bounds ≡ full_bounds
BoundsStand (Some b) j x v = v.processor.bounds j ≡ x.bounds

abbrev pub next_bound : Option ℕ → ℕ → ℕ
next_bound None j = j
next_bound (Some b) j = suc j

abbrev pub ArgsStand : ℕ → ℕ → List (ℕ × Option ℕ) → List Value → View → Type 0
ArgsStand i j [] [] v = Unit {0}
ArgsStand i j [] (x ∷ xs) v = ⊥
ArgsStand i j (a ∷ rest) [] v = ⊥
ArgsStand i j (a ∷ rest) (x ∷ xs) v = (v.processor.regs (arg_reg i) ≡ x.number) × BoundsStand a.1 j x v × ArgsStand (suc i) (next_bound a.1 j) rest xs v

-- ---- what the machine's run comes to, by what the steps come to

module _ (S : Setting) (p : Plan) (access_of : ℕ → Option AccessOfC) where
  -- it comes to the end of the function, with the value in rax, and a pointer's bounds in BND0
  pub record GivesBack (out : Whole Stored) (value : Value) (w : World) : Type 0 where
    pub view : View
    pub leads : Leads S out view
    pub at : view.processor.rip ≡ S.label_at p.exit
    pub number : view.processor.regs 0 ≡ value.number
    pub bounds : p.pointer ≡ true → view.processor.bounds 0 ≡ value.bounds
    pub world : view.world ≡ w

  abbrev pub StopsSo : Whole Stored → StopOfC → World → Type 0
  StopsSo out why w = (why ≡ OutOfTurns) × RunsOut S out w ⊎ ((m : Stop) × Ended S out m w × (stop_in_c access_of m ≡ Some why))

  -- where a step names what is not there, anything
  abbrev pub Ends : Whole Stored → Outcome → Type 0
  Ends out (Comes v w) = GivesBack out v w
  Ends out (Stops why w) = StopsSo out why w
  Ends out Stuck = Unit {0}

  -- a call comes back behind its instruction, with the frame as it was, and the stack above it
  pub record CameBack (v : View) (next : ℕ) (pointer : Bool) (out : Whole Stored) (value : Value) (w : World) : Type 0 where
    pub view : View
    pub leads : Leads S out view
    pub at : view.processor.rip ≡ next
    pub number : view.processor.regs 0 ≡ value.number
    pub bounds : pointer ≡ true → view.processor.bounds 0 ≡ value.bounds
    pub slots : view.slots ≡ v.slots
    pub world : view.world ≡ w
    pub left : w.turns ≤ v.world.turns

  abbrev pub CallEnds : View → ℕ → Bool → Whole Stored → Outcome → Type 0
  CallEnds v next pointer out (Comes value w) = CameBack v next pointer out value w
  CallEnds v next pointer out (Stops why w) = StopsSo out why w
  CallEnds v next pointer out Stuck = Unit {0}

-- what calls do below: whatever stands at the symbols' addresses does what the symbols mean
abbrev pub Calls : (S : Setting) → IsSetting S → Plan → (ℕ → Option AccessOfC) → Symbols → (returns : ℕ → Bool) → (takes : ℕ → List (ℕ × Option ℕ) → Bool) → Type 0
Calls S ok p access_of symbols returns takes = (symbol : ℕ) (args : List (ℕ × Option ℕ)) (xs : List Value) (v : View) (y : Stored) (k next : ℕ) → takes symbol args ≡ true → Ready S ok v y (CallRel true (relative (S.entry_at symbol) next)) next → ArgsStand 0 0 args xs v
    → CallEnds S p access_of v next (returns symbol) (whole_of S v y k) (symbols.call symbol xs v.world)
