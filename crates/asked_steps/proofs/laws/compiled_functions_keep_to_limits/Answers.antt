use Rattle.asked_steps.proofs.Limits.{function_limited}
use Rattle.asked_steps.proofs.laws.compiled_functions_keep_to_limits.Goals as goal

pub returns : goal.returns
returns c = function_limited
