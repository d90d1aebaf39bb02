use Rattle.std.proofs.Common.{refl}
use Rattle.c_check_statements.specs.Walks.{◌then◌, at_node, inside, past}
use Rattle.c_check.proofs.laws.walks_break_rules_in_order.Goals as goal

pub returns-clause-then_ : goal.returns-clause-then_
unfolding ◌then◌
returns-clause-then_ c = λ a b state. refl

pub returns-clause-node : goal.returns-clause-node
unfolding at_node
returns-clause-node c = λ place kinds state. refl

pub returns-clause-expression : goal.returns-clause-expression
unfolding past
returns-clause-expression c = λ x state. refl

pub returns-clause-inner : goal.returns-clause-inner
unfolding inside
returns-clause-inner c = λ enter walk leave state. refl
