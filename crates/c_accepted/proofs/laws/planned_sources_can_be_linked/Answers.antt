use Rattle.c_accepted.proofs.Planning.{planned_links}
use Rattle.c_accepted.proofs.laws.planned_sources_can_be_linked.Goals as goal

pub returns : goal.returns
returns c = planned_links
