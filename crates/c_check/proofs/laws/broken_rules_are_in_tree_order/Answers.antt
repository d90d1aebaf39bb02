use Rattle.c_check.proofs.NodesListed.{one_list}
use Rattle.c_check.proofs.NodesBroken.{in_order, tree_in_order}
use Rattle.c_check.proofs.laws.broken_rules_are_in_tree_order.Goals as goal

pub returns-clause-one : goal.returns-clause-one
returns-clause-one c = λ tree. tree_in_order tree

pub returns-clause-each : goal.returns-clause-each
returns-clause-each c = λ tree nodes listed. in_order tree nodes listed

pub returns-clause-only : goal.returns-clause-only
returns-clause-only c = λ nodes one other l m. one_list l m
