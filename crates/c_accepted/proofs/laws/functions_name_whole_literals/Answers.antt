use Rattle.c_accepted.proofs.LiteralItems.{literals_whole}
use Rattle.c_accepted.proofs.laws.functions_name_whole_literals.Goals as goal

pub returns : goal.returns
returns c = literals_whole
