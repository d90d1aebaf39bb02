use Rattle.std.proofs.Common.{refl}
use Rattle.mpx_probe.proofs.mpx.stepped.Goals as goal

pub done-requires : goal.done-requires
done-requires c = ((c.in-Ok.ensures.found c.in-Ok.found.0 c.in-Ok.found.1).0 refl).spells.valid
