use Rattle.std.proofs.Common.{refl}
use Rattle.mpx_probe.proofs.step.stepped.Goals as goal

pub step-done-requires-clause-valid : goal.step-done-requires-clause-valid
step-done-requires-clause-valid c = ((c.in-Ok.ensures.found c.in-Ok.found.0 c.in-Ok.found.1).0 refl).spells.valid
