use Rattle.std.proofs.Common.{take}
use Rattle.c_check.proofs.TableLists.{GlobalsListed}
use Rattle.c_check.proofs.numbers.number_globals.Given as goal

abbrev pub invariant-variables : goal.invariant-variables
invariant-variables l = GlobalsListed l.fn.table l.table l.globals (take l.variable-index l.variables) l.variable-index
