use Rattle.bounds_plan.proofs.Worlds.{fewer-calls}
use Rattle.bounds_plan.proofs.laws.turns_never_grow.Goals as goal

pub returns : goal.returns
returns c = fewer-calls
