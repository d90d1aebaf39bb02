use Rattle.c_check.proofs.NodesBroken.{broken_exactly}
use Rattle.c_check.proofs.laws.broken_rules_are_those_of_nodes.Goals as goal

pub returns : goal.returns
returns c = λ tree room place kind. broken_exactly tree room place kind
