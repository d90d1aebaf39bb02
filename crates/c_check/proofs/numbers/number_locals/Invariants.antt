use Rattle.std.proofs.Common.{take}
use Rattle.c_check.proofs.TableLists.{LocalsListed}
use Rattle.c_check.proofs.numbers.number_locals.Given as goal

abbrev pub invariant-variables : goal.invariant-variables
invariant-variables l = LocalsListed l.fn.table l.table l.locals (take l.variable-index l.variables) l.variable-index
