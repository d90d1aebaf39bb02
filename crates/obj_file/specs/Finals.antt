-- Moments of a run, and how the run ends from there, as one value: the end, all accesses that were made for C, and whether the run
-- leaves the directory and the tables to walks and servings.
use Rattle.std.specs.Prelude.{ℕ, zero, suc, ◌++◌, ◌&&◌, ◌||◌, not, if◌then◌else◌, Bool, true, false, List, [], ◌∷◌}
use Rattle.mx_base.specs.declared.stops.Stop.{Stop}
use Rattle.mx_base.specs.Bounds.{moved}
use Rattle.mx_base.specs.Regions.{is_executable}
use Rattle.mx_base.specs.World.{Access}
use Rattle.x86_forms.specs.declared.instr.Instr.{Instr}
use Rattle.x86_forms.specs.declared.spans.Span.{Span}
use Rattle.x86_forms.specs.Processor.{Processor}
use Rattle.x86_forms.specs.Accesses.{accesses}
use Rattle.x86_forms.specs.Watch.{is_watched}
use Rattle.obj_file.specs.Machine.{Reading, Is, Part, Neither, Ground, State, Event, Goes, Stops, event, reading_at, next_address}
use Rattle.obj_file.specs.Runs.{End, Out, Stopped, run_of, room, c_accesses_by, accesses_of}
use Rattle.obj_file.specs.StoreLaw.{is_of_bounds, service_reads}

-- ---- which accesses keep out of the directory and the tables, as tests

-- a test of all numbers below n
unfoldable pub all_below : ℕ → (ℕ → Bool) → Bool
all_below zero test = true
all_below (suc n) test = test n && all_below n test

-- no byte of an access lies in the directory or the tables
abbrev pub avoids_bounds : Span → Bool
avoids_bounds s = all_below s.size (λ k. not (is_of_bounds (moved s.at k)))

-- an access that the watch judges, or one that avoids them
unfoldable pub keeps_out : Bool → Instr → ℕ → Span → Bool
keeps_out bare i from s = (not bare && is_watched i from s) || avoids_bounds s

abbrev pub all_keep_out : Bool → Instr → ℕ → List Span → Bool
all_keep_out bare i from [] = true
all_keep_out bare i from (s ∷ rest) = keeps_out bare i from s && all_keep_out bare i from rest

-- an instruction is clean if its accesses and those of its service keep out
abbrev pub clean_by : Bool → Processor → Reading → Bool
clean_by bare c (Is i size) = all_keep_out bare i c.rip (accesses i (next_address c.rip size) c.regs ++ service_reads i c)
clean_by bare c Part = true
clean_by bare c Neither = true

-- the next event is clean
abbrev pub clean_now : {X : Type 0} → Ground X → State X → Bool
clean_now g s = if is_executable s.processor.rip then clean_by g.bare s.processor (reading_at g s) else true

-- an event, and those after it as far as turns last
abbrev pub and_clean : {X : Type 0} → (ℕ → State X → Bool) → ℕ → Bool → Event X → Bool
and_clean go turns now (Goes false t) = now && go turns t
and_clean go zero now (Goes true t) = now
and_clean go (suc turns) now (Goes true t) = now && go turns t
and_clean go turns now (Stops turn why last) = now

-- each of at most n events is clean, one for which no turn is left among them
unfoldable pub clean_within : {X : Type 0} → Ground X → ℕ → ℕ → State X → Bool
clean_within g zero turns s = true
clean_within g (suc n) turns s = and_clean (clean_within g n) turns (clean_now g s) (event g s)

-- each event of a run is clean
unfoldable pub clean_of : {X : Type 0} → Ground X → ℕ → State X → Bool
clean_of g turns s = clean_within g (room turns s) turns s

-- ---- moments and ends

-- the state, the turns left, and the accesses that were made for C before
pub record Moment (X : Type 0) : Type 0 where
  pub state : State X
  pub turns : ℕ
  pub accesses : List Access

-- how a run ends, all accesses that were made for C, and whether each event of it is clean
pub record Final (X : Type 0) : Type 0 where
  pub end : End X
  pub accesses : List Access
  pub clean : Bool

-- the run from a moment
abbrev pub final : {X : Type 0} → Ground X → Moment X → Final X
final g m = record { end = run_of g m.turns m.state; accesses = m.accesses ++ accesses_of g m.turns m.state; clean = clean_of g m.turns m.state }

-- ---- an event and the run from there

-- an end behind events of which it is known whether they are clean
abbrev pub behind : {X : Type 0} → Bool → Final X → Final X
behind clean f = record f { clean = clean && f.clean }

-- the accesses that the next instruction makes for C
abbrev pub accesses_now : {X : Type 0} → Ground X → State X → List Access
accesses_now g s = c_accesses_by s (reading_at g s)

-- an event that is done leads to a state with so many turns left
abbrev pub gone_on : {X : Type 0} → Ground X → Moment X → ℕ → State X → Final X
gone_on g m turns t = behind (clean_now g m.state) (final g (record { state = t; turns = turns; accesses = m.accesses ++ accesses_now g m.state }))

-- an event that isn't done, since no turn is left for it or since it is a stop, makes no access
abbrev pub ended_there : {X : Type 0} → Ground X → Moment X → End X → Final X
ended_there g m end = record { end = end; accesses = m.accesses; clean = clean_now g m.state }

-- an event that takes a turn happens only if one is left
abbrev pub if_turns : {X : Type 0} → Ground X → Moment X → ℕ → (ℕ → Final X) → Final X
if_turns g m zero go = ended_there g m (Out m.state)
if_turns g m (suc turns) go = go turns

-- an event at a moment and the run from there
abbrev pub final_after : {X : Type 0} → Ground X → Moment X → Event X → Final X
final_after g m (Goes false t) = gone_on g m m.turns t
final_after g m (Goes true t) = if_turns g m m.turns (λ turns. gone_on g m turns t)
final_after g m (Stops false why last) = ended_there g m (Stopped why last)
final_after g m (Stops true why last) = if_turns g m m.turns (λ turns. ended_there g m (Stopped why last))
