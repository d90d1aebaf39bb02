use Rattle.accepted_trees.proofs.Statements.{bodies_within}
use Rattle.accepted_trees.proofs.laws.statements_keep_to_limits.Goals as goal

pub returns : goal.returns
returns c = bodies_within
