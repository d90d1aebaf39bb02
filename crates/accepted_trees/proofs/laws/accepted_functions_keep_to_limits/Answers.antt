use Rattle.accepted_trees.proofs.Functions.{functions_keep}
use Rattle.accepted_trees.proofs.laws.accepted_functions_keep_to_limits.Goals as goal

pub returns : goal.returns
returns c = functions_keep
