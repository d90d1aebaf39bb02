use Rattle.c_check.proofs.NodesFirst.{first_told}
use Rattle.c_check.proofs.laws.first_broken_rule_is_of_the_first_node.Goals as goal

pub returns : goal.returns
returns c = λ tree room nodes first listed fits h. first_told tree room nodes first listed fits h
