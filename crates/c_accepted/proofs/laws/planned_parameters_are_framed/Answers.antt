use Rattle.c_accepted.proofs.Elaborating.{parameters_framed}
use Rattle.c_accepted.proofs.laws.planned_parameters_are_framed.Goals as goal

pub returns : goal.returns
returns c = parameters_framed
