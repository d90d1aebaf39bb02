-- Runs of the machine with a bound on turns: how they end, and which accesses of C they make.
use Rattle.std.specs.Prelude.{ℕ, zero, suc, ◌+◌, ◌-◌, ◌*◌, true, false, if◌then◌else◌, List, [], ◌∷◌, ◌++◌}
use Rattle.mx_base.specs.declared.stops.Stop.{Stop}
use Rattle.mx_base.specs.World.{Access}
use Rattle.x86_forms.specs.declared.instr.Instr.{Instr}
use Rattle.x86_forms.specs.declared.spans.Span.{Span}
use Rattle.x86_forms.specs.Accesses.{accesses}
use Rattle.x86_forms.specs.Watch.{is_legacy, is_c_access}
use Rattle.obj_file.specs.Machine.{Reading, Is, Part, Neither, Ground, State, Event, Goes, Stops, event, reading_at, next_address}

-- how a run ends: no turn was left for the event that this is the state before; or a stop, with the state that it leaves
pub data End (X : Type 0) : Type 0 where
  Out : (last : State X) → End X
  Stopped : (why : Stop) → (last : State X) → End X

-- an event and the run from there. An event that takes a turn happens only if one is left
abbrev pub after : {X : Type 0} → (ℕ → State X → End X) → ℕ → State X → Event X → End X
after go turns s (Goes false t) = go turns t
after go zero s (Goes true t) = Out s
after go (suc turns) s (Goes true t) = go turns t
after go turns s (Stops false why last) = Stopped why last
after go zero s (Stops true why last) = Out s
after go (suc turns) s (Stops true why last) = Stopped why last

-- at most n events
unfoldable pub run_within : {X : Type 0} → Ground X → ℕ → ℕ → State X → End X
run_within g zero turns s = Out s
run_within g (suc n) turns s = after (run_within g n) turns s (event g s)

-- turns left and code ahead in one number, which falls at each event: one that takes no turn leads forward in instrumented code
unfoldable pub room : {X : Type 0} → ℕ → State X → ℕ
room turns s = turns * 0x1100_0001 + (0x1100_0000 - s.processor.rip) + 1

-- the run from a state with these turns
unfoldable pub run_of : {X : Type 0} → Ground X → ℕ → State X → End X
run_of g turns s = run_within g (room turns s) turns s

-- ---- accesses of C

abbrev pub access_of : Span → Access
access_of s = record { write = s.write; at = s.at; size = s.size }

abbrev pub c_accesses_among : Instr → List Span → List Access
c_accesses_among i [] = []
c_accesses_among i (s ∷ rest) = if is_c_access i s then access_of s ∷ c_accesses_among i rest else c_accesses_among i rest

-- the accesses that the instruction at a state makes for C
abbrev pub c_accesses_by : {X : Type 0} → State X → Reading → List Access
c_accesses_by s (Is i size) = if is_legacy s.processor.rip then [] else c_accesses_among i (accesses i (next_address s.processor.rip size) s.processor.regs)
c_accesses_by s Part = []
c_accesses_by s Neither = []

-- those of an event that is done, and then those after it
abbrev pub and_later : {X : Type 0} → (ℕ → State X → List Access) → ℕ → List Access → Event X → List Access
and_later go turns now (Goes false t) = now ++ go turns t
and_later go zero now (Goes true t) = []
and_later go (suc turns) now (Goes true t) = now ++ go turns t
and_later go turns now (Stops turn why last) = []

unfoldable pub accesses_within : {X : Type 0} → Ground X → ℕ → ℕ → State X → List Access
accesses_within g zero turns s = []
accesses_within g (suc n) turns s = and_later (accesses_within g n) turns (c_accesses_by s (reading_at g s)) (event g s)

-- the accesses that a run makes for C, in order; an instruction that stops counts as making none
unfoldable pub accesses_of : {X : Type 0} → Ground X → ℕ → State X → List Access
accesses_of g turns s = accesses_within g (room turns s) turns s
