use Rattle.accepted_trees.proofs.Linked.{linked_keep}
use Rattle.accepted_trees.proofs.laws.linked_functions_keep_to_limits.Goals as goal

pub returns : goal.returns
returns c = linked_keep
