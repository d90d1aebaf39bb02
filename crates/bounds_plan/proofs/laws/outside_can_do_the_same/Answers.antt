use Rattle.bounds_plan.proofs.Calls.{passed_on}
use Rattle.bounds_plan.proofs.laws.outside_can_do_the_same.Goals as goal

pub returns : goal.returns
returns c = passed_on
