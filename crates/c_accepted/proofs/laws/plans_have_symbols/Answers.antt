use Rattle.c_accepted.proofs.Planning.{symbols_had}
use Rattle.c_accepted.proofs.laws.plans_have_symbols.Goals as goal

pub returns : goal.returns
returns c = symbols_had
