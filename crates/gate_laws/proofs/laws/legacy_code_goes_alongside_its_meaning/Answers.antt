use Rattle.gate_laws.proofs.Whole.{legacy_events}
use Rattle.gate_laws.proofs.laws.legacy_code_goes_alongside_its_meaning.Goals as goal

pub returns : goal.returns
returns c = legacy_events
