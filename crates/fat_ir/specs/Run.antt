-- What a list of steps does.
use Rattle.std.specs.Prelude.{ℕ, zero, suc, ◌==◌, if◌then◌else◌, List, [], ◌∷◌}
use Rattle.mx_base.specs.Bounds.{full_bounds}
use Rattle.mx_base.specs.StopOfC.{OutOfTurns}
use Rattle.fat_ir.specs.declared.step.FatStep.{FatStep}
use Rattle.fat_ir.specs.declared.step.FatStep.TheVariants.{Label}
use Rattle.fat_ir.specs.Values.{Value, private_alone}
use Rattle.fat_ir.specs.Calls.{Outcome, Comes, Stops, taking_turn}
use Rattle.fat_ir.specs.Step.{Symbols, State, Going, Next, To, Reached, On, Over, does}

-- on the way to a label every other step is passed by
abbrev pub passes : (label : ℕ) → FatStep → State → Reached
passes label (Label n) s = if label == n then On Next s else On (To label) s
passes label _ s = On (To label) s

abbrev pub moves : Symbols → FatStep → Going → State → Reached
moves symbols step Next s = does symbols step s
moves symbols step (To label) s = passes label step s

abbrev pub and_then : Reached → (Going → State → Reached) → Reached
and_then (On going s) go = go going s
and_then (Over outcome) go = Over outcome

-- one pass over steps, in order
abbrev pub pass : Symbols → List FatStep → Going → State → Reached
pass symbols [] going s = On going s
pass symbols (step ∷ steps) going s = and_then (moves symbols step going s) (pass symbols steps)

-- ---- the run of a function

-- what a function gives that ends without a value
abbrev pub no_value : Value
no_value = record { number = 0; bounds = full_bounds }

-- on a way back only the private variables stay
abbrev pub back : ℕ → State → State
back private s = record s { values = private_alone private s.values }

-- how the run goes on after a pass over all steps of a function: it ends, or goes back to a label that stands before the jump, which takes a turn
abbrev pub followed : (private : ℕ) → (again : ℕ → State → Outcome) → Reached → Outcome
followed private again (On Next s) = Comes no_value s.world
followed private again (On (To label) s) = taking_turn s.world (λ w. again label (back private record s { world = w }))
followed private again (Over outcome) = outcome

-- the run from a label on, with room for so many passes
abbrev pub run_to : Symbols → (private : ℕ) → List FatStep → (room : ℕ) → (label : ℕ) → State → Outcome
run_to symbols private steps zero label s = Stops OutOfTurns s.world
run_to symbols private steps (suc room) label s = followed private (run_to symbols private steps room) (pass symbols steps (To label) s)

-- the run of a function's steps, or from a label on; each way back takes a turn, so there is room enough for as many passes as turns are left
abbrev pub steps_run : Symbols → (private : ℕ) → List FatStep → Going → State → Outcome
steps_run symbols private steps going s = followed private (run_to symbols private steps s.world.turns) (pass symbols steps going s)
