use Rattle.asked_steps.proofs.Fine.{steps_are_fine}
use Rattle.asked_steps.proofs.laws.steps_within_limits_are_what_code_asks.Goals as goal

pub returns : goal.returns
returns c = steps_are_fine
