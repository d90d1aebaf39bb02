use Rattle.std.proofs.Common.{◌≡◌, ℕ, drop}
use Rattle.reg_assign.specs.Loops.{past_in, jumps_noted}
use Rattle.reg_assign.proofs.loops.note_steps.Given as goal

abbrev pub invariant-loop-at : goal.invariant-loop-at
invariant-loop-at l = (n : ℕ) → jumps_noted n (past_in l.map n) l.at (drop l.at l.steps) ≡ jumps_noted n (past_in l.initial.map n) 0 l.steps
