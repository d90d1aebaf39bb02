use Rattle.c_check.proofs.NodesParts.{parts_first}
use Rattle.c_check.proofs.laws.parts_of_a_node_come_first.Goals as goal

pub returns : goal.returns
returns c = λ node. parts_first node
