use Rattle.std.proofs.Common.{◌≡◌, ◌++◌, drop}
use Rattle.c_check_statements.specs.Frames.{variables_from}
use Rattle.c_check_statements.proofs.frames.variables_of.Given as goal

abbrev pub invariant-kinds : goal.invariant-kinds
invariant-kinds l = l.all ++ variables_from l.number l.taken (drop l.number l.kinds) ≡ variables_from 0 l.taken l.kinds
