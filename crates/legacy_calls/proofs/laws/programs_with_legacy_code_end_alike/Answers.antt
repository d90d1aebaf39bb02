use Rattle.legacy_calls.proofs.Ends.{programs_end_alike}
use Rattle.legacy_calls.proofs.laws.programs_with_legacy_code_end_alike.Goals as goal

pub returns : goal.returns
returns c = programs_end_alike
