use Rattle.bounds_plan.proofs.Calls.{calls_follow, programs_follow}
use Rattle.bounds_plan.proofs.laws.compiled_programs_do_what_they_mean.Goals as goal

pub returns-clause-calls : goal.returns-clause-calls
returns-clause-calls c = calls_follow

pub returns-clause-ends : goal.returns-clause-ends
returns-clause-ends c = programs_follow
