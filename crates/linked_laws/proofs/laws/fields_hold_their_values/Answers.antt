use Rattle.linked_laws.proofs.Filled.{filled}
use Rattle.linked_laws.proofs.laws.fields_hold_their_values.Goals as goal

pub returns : goal.returns
returns c = filled
