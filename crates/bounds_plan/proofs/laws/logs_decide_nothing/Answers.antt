use Rattle.bounds_plan.proofs.Calls.{log_apart}
use Rattle.bounds_plan.proofs.laws.logs_decide_nothing.Goals as goal

pub returns : goal.returns
returns c = log_apart
