use Rattle.asked_steps.proofs.Parameters.{may_wish}
use Rattle.asked_steps.proofs.laws.parameters_may_wish.Goals as goal

pub returns : goal.returns
returns c = λ count f fits few few_too name. may_wish name f fits.parameters few few_too
