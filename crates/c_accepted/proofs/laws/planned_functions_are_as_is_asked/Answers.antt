use Rattle.c_accepted.proofs.Meeting.{planned_meet}
use Rattle.c_accepted.proofs.laws.planned_functions_are_as_is_asked.Goals as goal

pub returns : goal.returns
returns c = planned_meet
