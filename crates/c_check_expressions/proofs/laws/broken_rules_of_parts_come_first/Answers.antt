use Rattle.std.proofs.Common.{refl}
use Rattle.c_check_typing.specs.Notes.{leaf, one, two, three, unevaluated}
use Rattle.c_check_expressions.proofs.laws.broken_rules_of_parts_come_first.Goals as goal

pub returns-clause-leaf : goal.returns-clause-leaf
unfolding leaf
returns-clause-leaf c = λ place own. refl

pub returns-clause-one : goal.returns-clause-one
unfolding one
returns-clause-one c = λ place a own. refl

pub returns-clause-two : goal.returns-clause-two
unfolding two
returns-clause-two c = λ place a b own. refl

pub returns-clause-three : goal.returns-clause-three
unfolding three
returns-clause-three c = λ place a b d own. refl

pub returns-clause-not_evaluated : goal.returns-clause-not_evaluated
unfolding unevaluated
returns-clause-not_evaluated c = λ a. refl
