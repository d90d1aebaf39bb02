use Rattle.bounds_plan.proofs.Whole.{bodies_follow}
use Rattle.bounds_plan.proofs.laws.compiled_bodies_do_what_they_mean.Goals as goal

pub returns : goal.returns
returns c = bodies_follow
