use Rattle.std.proofs.Common.{◌≡◌, drop}
use Rattle.reg_assign.specs.Lives.{steps_touched}
use Rattle.reg_assign.proofs.lives.Lives.touch_steps.Given as goal

abbrev pub invariant-loop-at : goal.invariant-loop-at
invariant-loop-at l = steps_touched l.at (drop l.at l.steps) l.self ≡ steps_touched 0 l.steps l.initial.self
