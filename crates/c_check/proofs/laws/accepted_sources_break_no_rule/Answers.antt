use Rattle.c_check.proofs.NodesBroken.{accepted_exactly}
use Rattle.c_check.proofs.laws.accepted_sources_break_no_rule.Goals as goal

pub returns : goal.returns
returns c = λ tree room. accepted_exactly tree room
