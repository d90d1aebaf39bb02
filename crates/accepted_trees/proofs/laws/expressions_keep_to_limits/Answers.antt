use Rattle.accepted_trees.proofs.Expressions.{effects_within}
use Rattle.accepted_trees.proofs.laws.expressions_keep_to_limits.Goals as goal

pub returns : goal.returns
returns c = effects_within
