use Rattle.std.proofs.Common.{◌≡◌, drop}
use Rattle.fat_ir.specs.Named.{in_arguments}
use Rattle.reg_assign.specs.Lives.{all_touched}
use Rattle.reg_assign.proofs.lives.Lives.touch_arguments.Given as goal

abbrev pub invariant-loop-arg : goal.invariant-loop-arg
invariant-loop-arg l = all_touched l.at (in_arguments (drop l.arg-index l.args)) l.self ≡ all_touched l.at (in_arguments l.args) l.initial.self
