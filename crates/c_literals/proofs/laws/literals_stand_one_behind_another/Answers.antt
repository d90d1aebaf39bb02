use Rattle.c_literals.proofs.LaidLemmas.{literal_begins, literal_ends}
use Rattle.c_literals.proofs.laws.literals_stand_one_behind_another.Goals as goal

pub returns-clause-begins : goal.returns-clause-begins
returns-clause-begins c = literal_begins

pub returns-clause-ends : goal.returns-clause-ends
returns-clause-ends c = literal_ends
