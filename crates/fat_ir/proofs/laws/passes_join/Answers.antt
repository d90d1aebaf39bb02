use Rattle.fat_ir.proofs.Lists.{pass-append, pass-over, pass-here}
use Rattle.fat_ir.proofs.laws.passes_join.Goals as goal

pub returns-clause-join : goal.returns-clause-join
returns-clause-join c = pass-append

pub returns-clause-over : goal.returns-clause-over
returns-clause-over c = pass-over

pub returns-clause-here : goal.returns-clause-here
returns-clause-here c = pass-here
