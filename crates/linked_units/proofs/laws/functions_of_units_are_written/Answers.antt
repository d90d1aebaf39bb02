use Rattle.linked_units.proofs.Written.{are_written}
use Rattle.linked_units.proofs.laws.functions_of_units_are_written.Goals as goal

pub returns : goal.returns
returns c = are_written
