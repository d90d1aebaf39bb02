use Rattle.gate_laws.proofs.Whole.{linked_calls}
use Rattle.gate_laws.proofs.laws.legacy_calls_do_what_they_mean.Goals as goal

pub returns : goal.returns
returns c = linked_calls
