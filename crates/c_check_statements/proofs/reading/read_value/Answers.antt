use Rattle.c_check_statements.proofs.Steps.{reads_value}
use Rattle.c_check_statements.proofs.reading.read_value.Goals as goal

pub returns : goal.returns
returns c = reads_value _ _ c.read_expr.ensures
