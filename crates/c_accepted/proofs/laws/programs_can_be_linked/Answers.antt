use Rattle.c_accepted.proofs.Links.{can_link}
use Rattle.c_accepted.proofs.laws.programs_can_be_linked.Goals as goal

pub returns : goal.returns
returns c = can_link
