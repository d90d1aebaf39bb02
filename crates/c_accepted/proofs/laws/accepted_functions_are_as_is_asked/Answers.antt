use Rattle.c_accepted.proofs.Planning.{accepted_meet}
use Rattle.c_accepted.proofs.laws.accepted_functions_are_as_is_asked.Goals as goal

pub returns : goal.returns
returns c = accepted_meet
