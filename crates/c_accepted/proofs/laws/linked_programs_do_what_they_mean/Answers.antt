use Rattle.bounds_plan.proofs.Calls.{calls_follow, programs_follow}
use Rattle.bounds_plan.proofs.Worlds.{judged-calls}
use Rattle.c_accepted.proofs.Linking.{linked_fits, linked_whole}
use Rattle.c_accepted.proofs.laws.linked_programs_do_what_they_mean.Goals as goal

pub returns-clause-calls : goal.returns-clause-calls
returns-clause-calls c = λ takes_outside program l. calls_follow takes_outside program (linked_fits takes_outside program l)

pub returns-clause-ends : goal.returns-clause-ends
returns-clause-ends c = λ takes_outside program l. programs_follow takes_outside program (linked_fits takes_outside program l)

pub returns-clause-within : goal.returns-clause-within
returns-clause-within c = λ takes_outside program l. judged-calls program (linked_whole takes_outside program l)
