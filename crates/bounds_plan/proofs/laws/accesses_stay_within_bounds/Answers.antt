use Rattle.bounds_plan.proofs.Worlds.{judged-calls}
use Rattle.bounds_plan.proofs.laws.accesses_stay_within_bounds.Goals as goal

pub returns : goal.returns
returns c = judged-calls
