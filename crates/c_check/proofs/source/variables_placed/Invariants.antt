use Rattle.std.proofs.Common.{◌≡◌, drop}
use Rattle.c_check_statements.specs.Placing.{from_start}
use Rattle.c_check.specs.Accepted.{variables_placed}
use Rattle.c_check.proofs.source.variables_placed.Given as goal

abbrev pub invariant-variables : goal.invariant-variables
invariant-variables l = variables_placed l.structs from_start l.variables ≡ variables_placed l.structs l.free (drop l.variable-index l.variables)
