use Rattle.c_accepted.proofs.Variables.{globals_stay}
use Rattle.c_accepted.proofs.laws.globals_keep_their_types.Goals as goal

pub returns : goal.returns
returns c = globals_stay
