use Rattle.bounds_plan.proofs.Once.{labels-once}
use Rattle.bounds_plan.proofs.laws.jumps_find_their_labels.Goals as goal

pub returns : goal.returns
returns c = labels-once
