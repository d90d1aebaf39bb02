use Rattle.bounds_plan.proofs.Calls.{functions_follow, functions_not_stuck}
use Rattle.bounds_plan.proofs.laws.compiled_functions_do_what_they_mean.Goals as goal

pub returns-clause-same : goal.returns-clause-same
returns-clause-same c = functions_follow

pub returns-clause-never_stuck : goal.returns-clause-never_stuck
returns-clause-never_stuck c = functions_not_stuck
