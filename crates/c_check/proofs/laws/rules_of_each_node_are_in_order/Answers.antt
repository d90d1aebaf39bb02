use Rattle.c_check.proofs.NodesOrder.{node_order}
use Rattle.c_check.proofs.laws.rules_of_each_node_are_in_order.Goals as goal

pub returns : goal.returns
returns c = λ node. node_order node
