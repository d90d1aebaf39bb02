use Rattle.std.proofs.Common.{rules}
use Rattle.c_check_statements.proofs.Steps.{walks_as, value_stops, value_ends}
use Rattle.c_check_statements.proofs.reading.read_effect.Goals as goal

pub returns-in_err-_t : goal.returns-in_err-_t
returns-in_err-_t c = walks_as (value_stops c.in_err-_t.ensures) (search rules)

pub returns : goal.returns
returns c = value_ends c.in_ok-_t.ensures
