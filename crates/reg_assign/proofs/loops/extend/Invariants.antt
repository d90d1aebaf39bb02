use Rattle.std.proofs.Common.{◌≡◌, drop}
use Rattle.reg_assign.specs.Loops.{extended}
use Rattle.reg_assign.proofs.loops.extend.Given as goal

abbrev pub invariant-loop-l : goal.invariant-loop-l
invariant-loop-l l = extended l.from l.past (drop l.l-index l.loops) ≡ extended l.from l.fn.range.past l.loops
