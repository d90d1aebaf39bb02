-- The events of legacy code between two worlds and their logs, for runs that go in pieces.
use Rattle.std.specs.Prelude.{ℕ, zero, suc, ◌==◌, if◌then◌else◌, Bool, List, [], ◌∷◌}
use Rattle.mx_base.specs.World.{World, Log}
use Rattle.x86_forms.specs.Processor.{Processor}
use Rattle.obj_file.specs.Machine.{Event, Goes, Stops, event}
use Rattle.obj_file.specs.Stored.{Stored}
use Rattle.bounds_plan.specs.laws.Laws.{Events}
use Rattle.legacy_calls.specs.Legacy.{Linkage, from_state}
use Rattle.obj_file.specs.Beside.{Beside, alone}
use Rattle.legacy_calls.specs.OfC.{ground_of_c, as_noted}

-- an event of legacy code: that of the instruction at a processor's address
abbrev pub left_by_event : World → Event (Beside Stored Log) → World × Log
left_by_event w (Goes turn t) = ((from_state w (alone t)).world, t.memory.notes)
left_by_event w (Stops turn why t) = ((from_state w (alone t)).world, t.memory.notes)

abbrev pub legacy_event : Linkage → Processor → World → Log → World × Log
legacy_event k c w log = left_by_event w (event (ground_of_c k) (as_noted record { processor = c; world = w } log))

-- ---- the same where functions of numbers tell which event it is

abbrev pub bit : Bool → ℕ
bit b = if b then 1 else 0

-- a processor told by functions: registers, lower and upper bounds, and the rest
abbrev pub told : Processor → List (ℕ → ℕ)
told c = c.regs ∷ (λ b. (c.bounds b).lb) ∷ (λ b. (c.bounds b).ub)
    ∷ (λ i. if i == 0 then c.rip else if i == 1 then c.status else if i == 2 then bit c.preserve else if i == 3 then bit c.flags.cf else if i == 4 then bit c.flags.zf else if i == 5 then bit c.flags.sf else bit c.flags.of) ∷ []

abbrev pub told_at : List (ℕ → ℕ) → ℕ → ℕ → ℕ
told_at [] k n = 0
told_at (f ∷ fs) zero n = f n
told_at (f ∷ fs) (suc k) n = told_at fs k n

abbrev pub told_by : List (ℕ → ℕ) → Processor
told_by fs = record {
  regs = told_at fs 0;
  flags = record { cf = told_at fs 3 3 == 1; zf = told_at fs 3 4 == 1; sf = told_at fs 3 5 == 1; of = told_at fs 3 6 == 1 };
  rip = told_at fs 3 0;
  bounds = λ b. record { lb = told_at fs 1 b; ub = told_at fs 2 b };
  preserve = told_at fs 3 2 == 1;
  status = told_at fs 3 1;
}

abbrev pub event_by_numbers : Linkage → Events
event_by_numbers k fs w log = legacy_event k (told_by fs) w log
