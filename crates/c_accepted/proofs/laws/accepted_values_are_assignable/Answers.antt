use Rattle.c_accepted.proofs.Taking.{all_assignable}
use Rattle.c_accepted.proofs.laws.accepted_values_are_assignable.Goals as goal

pub returns : goal.returns
returns c = all_assignable
