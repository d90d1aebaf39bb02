use Rattle.c_accepted.proofs.Taking.{symbols_take}
use Rattle.c_accepted.proofs.laws.symbols_can_take_parameters.Goals as goal

pub returns : goal.returns
returns c = symbols_take
