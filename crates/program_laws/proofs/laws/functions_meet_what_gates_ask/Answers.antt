use Rattle.program_laws.proofs.Whole.{layers}
use Rattle.program_laws.proofs.laws.functions_meet_what_gates_ask.Goals as goal

pub returns : goal.returns
returns c = layers
