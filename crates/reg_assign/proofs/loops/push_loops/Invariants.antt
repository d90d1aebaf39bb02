use Rattle.std.proofs.Common.{◌≡◌, ◌++◌, drop}
use Rattle.reg_assign.specs.Loops.{past_in, loops_from}
use Rattle.reg_assign.proofs.loops.push_loops.Given as goal

abbrev pub invariant-loop-at : goal.invariant-loop-at
invariant-loop-at l = l.loops.items ++ loops_from (past_in l.map) l.at (drop l.at l.steps) ≡ l.initial.loops.items ++ loops_from (past_in l.map) 0 l.steps
