use Rattle.c_accepted.proofs.Small.{parameters_few, waits_few}
use Rattle.c_accepted.proofs.laws.accepted_functions_are_small.Goals as goal

pub returns-clause-parameters : goal.returns-clause-parameters
returns-clause-parameters c = parameters_few

pub returns-clause-waiting : goal.returns-clause-waiting
returns-clause-waiting c = waits_few
