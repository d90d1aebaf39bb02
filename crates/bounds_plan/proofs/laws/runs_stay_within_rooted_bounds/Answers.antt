use Rattle.bounds_plan.proofs.RootedCalls.{whole-runs}
use Rattle.bounds_plan.proofs.laws.runs_stay_within_rooted_bounds.Goals as goal

pub returns : goal.returns
returns c = whole-runs
