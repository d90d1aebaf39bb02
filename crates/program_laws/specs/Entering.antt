-- What the call of a C function comes to before its steps begin.
use Rattle.std.specs.Prelude.{◌≡◌, ◌<◌, ◌≤◌, ℕ, suc, ◌+◌, ◌-◌, Option, List}
use Rattle.mx_base.specs.Memory.{Bytes}
use Rattle.mx_base.specs.Regions.{data_stack}
use Rattle.mx_base.specs.StopOfC.{AccessOfC, OutOfTurns, StackOver}
use Rattle.mx_base.specs.World.{World}
use Rattle.obj_file.specs.Finals.{final}
use Rattle.obj_file.specs.Stored.{Stored}
use Rattle.fat_ir.specs.Calls.{with_turns, with_data_sp}
use Rattle.fat_ir.specs.Functions.{Linked, values_at_entry}
use Rattle.fat_ir.specs.Values.{Value}
use Rattle.step_code.specs.Functions.{Layout, steps_at}
use Rattle.step_code.specs.Homes.{Assigned}
use Rattle.code_laws.specs.Runs.{In}
use Rattle.code_laws.specs.Seen.{Seen}
use Rattle.code_laws.specs.Views.{View}
use Rattle.legacy_calls.specs.Legacy.{Linkage, ground}
use Rattle.gate_laws.specs.Moments.{Moment}
use Rattle.gate_laws.specs.Standing.{EndsAs}
use Rattle.program_laws.specs.Borders.{moment_of, setting_of}
use Rattle.program_laws.specs.Functions.{IsFunction, entries_of}

module _ (k : Linkage) (image : Bytes) (places : ℕ → Option AccessOfC) (inner stub : ℕ → ℕ) (l : Linked) (layout : Layout)
    (assigned : Assigned layout.units l.fun.private l.fun.steps layout.plan layout.first layout.last) (first_step : ℕ)
    (m : Moment) (args : List Value) where
  -- the run from a moment is the one from the first step, where the code of the function sees this world, with the values at entry in
  -- their homes
  pub record Begins (w : World) : Type 0 where
    pub view : View
    pub memory : Stored
    pub steps : ℕ
    pub frozen : Bytes
    pub sp : ℕ
    pub depth : ℕ
    pub same : final (ground k) m ≡ final (ground k) (moment_of view memory steps)
    pub at : view.processor.rip ≡ first_step
    pub world : view.world ≡ w
    pub seen : Seen (setting_of k image frozen sp layout.units depth layout.label_at (entries_of inner stub l)) view memory
    pub values : In layout.units l.fun.private l.fun.steps layout.plan layout.first layout.last assigned 0
        (values_at_entry l.fun l.parameters args) view

  -- a call takes a turn, where one is left; it stops where the data stack has no room for the frame; else the steps begin
  pub record Enters (w : World) : Type 0 where
    pub no_turn : w.turns ≡ 0 → EndsAs places OutOfTurns w (final (ground k) m)
    pub no_room : (j : ℕ) → w.turns ≡ suc j → w.data_sp < data_stack.from + l.fun.frame
        → EndsAs places StackOver (with_turns j w) (final (ground k) m)
    pub begins : (j : ℕ) → w.turns ≡ suc j → data_stack.from + l.fun.frame ≤ w.data_sp
        → Begins (with_data_sp (w.data_sp - l.fun.frame) (with_turns j w))

-- the same of a function of a program
abbrev pub EntersFunction : (k : Linkage) (image : Bytes) (places : ℕ → Option AccessOfC) (inner stub : ℕ → ℕ) (l : Linked) (f : ℕ)
    → IsFunction k image places inner stub l f → Moment → List Value → World → Type 0
EntersFunction k image places inner stub l f fn m args w =
    Enters k image places inner stub l fn.layout fn.homes.assigned (steps_at l.fun l.parameters fn.layout (inner f)) m args w
