use Rattle.c_accepted.proofs.Literals.{effects_sized, literals_counted}
use Rattle.c_accepted.proofs.laws.expressions_name_whole_literals.Goals as goal

pub returns-clause-literals : goal.returns-clause-literals
returns-clause-literals c = effects_sized

pub returns-clause-counted : goal.returns-clause-counted
returns-clause-counted c = literals_counted
