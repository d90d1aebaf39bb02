use Rattle.code_laws.proofs.Core.{function_goes}
use Rattle.code_laws.proofs.laws.code_does_the_steps.Goals as goal

pub returns : goal.returns
returns c = function_goes
