use Rattle.std.proofs.Common.{rules}
use Rattle.c_check_statements.specs.Statements.{test_kinds}
use Rattle.c_check_statements.proofs.Steps.{then_stops, then_ends, value_stops, value_ends, value_is, node_of}
use Rattle.c_check_statements.proofs.statements.read_test.Goals as goal

pub returns-in_err-t : goal.returns-in_err-t
returns-in_err-t c = then_stops _ _ (value_stops c.in_err-t.ensures) (search rules)

pub returns : goal.returns
returns c = then_ends _ _ (value_ends c.in_ok-t.ensures) (node_of test_kinds (value_is c.in_ok-t.ensures) c.judge_test.ensures)
