use Rattle.std.proofs.Common.{length}
use Rattle.linked_laws.proofs.Formed.{formed}
use Rattle.linked_units.proofs.Told.{none_in_legacy}
use Rattle.linked_units.proofs.laws.accesses_stand_in_code.Goals as goal

pub returns : goal.returns
returns c = λ os v l number at legacy. none_in_legacy number v (length v.files) (formed os v l).places at legacy
