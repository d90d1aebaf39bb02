use Rattle.linked_laws.proofs.Standing.{parts_stand}
use Rattle.linked_laws.proofs.laws.parts_stand_at_their_addresses.Goals as goal

pub returns : goal.returns
returns c = parts_stand
