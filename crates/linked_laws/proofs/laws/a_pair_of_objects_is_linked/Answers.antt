use Rattle.linked_laws.proofs.Pair.{pair_linked}
use Rattle.linked_laws.proofs.laws.a_pair_of_objects_is_linked.Goals as goal

pub returns : goal.returns
returns c = pair_linked
