use Rattle.std.proofs.Common.{◌≡◌, ◌-◌}
use Rattle.reg_assign.specs.Lives.{all_touched, from_on}
use Rattle.reg_assign.proofs.lives.Lives.enter.Given as goal

abbrev pub invariant-loop-value : goal.invariant-loop-value
invariant-loop-value l = all_touched 0 (from_on l.value (l.count - l.value)) l.self ≡ all_touched 0 (from_on 0 l.count) l.initial.self
