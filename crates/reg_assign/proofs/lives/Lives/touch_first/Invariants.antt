use Rattle.std.proofs.Common.{◌≡◌, drop}
use Rattle.reg_assign.specs.Lives.{all_touched}
use Rattle.reg_assign.proofs.lives.Lives.touch_first.Given as goal

abbrev pub invariant-loop-value : goal.invariant-loop-value
invariant-loop-value l = all_touched 0 (drop l.value-index l.values) l.self ≡ all_touched 0 l.values l.initial.self
