use Rattle.gate_laws.proofs.Whole.{linked_doors}
use Rattle.gate_laws.proofs.laws.outer_entries_lead_to_functions_and_back.Goals as goal

pub returns : goal.returns
returns c = linked_doors
