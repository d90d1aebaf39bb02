use Rattle.bounds_plan.proofs.Fresh.{fresh, fresh_ptr, fresh_statement}
use Rattle.bounds_plan.proofs.laws.code_has_its_own_labels.Goals as goal

pub returns-clause-numbers : goal.returns-clause-numbers
returns-clause-numbers c = fresh

pub returns-clause-pointers : goal.returns-clause-pointers
returns-clause-pointers c = fresh_ptr

pub returns-clause-statements : goal.returns-clause-statements
returns-clause-statements c = fresh_statement
