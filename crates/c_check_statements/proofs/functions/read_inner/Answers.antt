use Rattle.std.proofs.Common.{rules}
use Rattle.c_check_statements.proofs.Steps.{then_stops, then_ends, node_ends}
use Rattle.c_check_statements.proofs.functions.read_inner.Goals as goal

pub returns-in_err-read_parameters : goal.returns-in_err-read_parameters
returns-in_err-read_parameters c = then_stops _ _ c.in_err-read_parameters.ensures (search rules)

pub returns-in_err-read_maybe_stmt : goal.returns-in_err-read_maybe_stmt
returns-in_err-read_maybe_stmt c = then_ends _ _ c.in_ok-read_parameters.ensures (then_stops _ _ c.in_err-read_maybe_stmt.ensures (search rules))

pub returns : goal.returns
returns c = then_ends _ _ c.in_ok-read_parameters.ensures (then_ends _ _ c.in_ok-read_maybe_stmt.ensures (node_ends c.judge_function.ensures))
