use Rattle.bounds_plan.proofs.Worlds.{longer-calls}
use Rattle.bounds_plan.proofs.laws.output_only_grows.Goals as goal

pub returns : goal.returns
returns c = longer-calls
