use Rattle.gate_laws.proofs.Whole.{linked_stubs}
use Rattle.gate_laws.proofs.laws.stubs_lead_to_legacy_code_and_back.Goals as goal

pub returns : goal.returns
returns c = linked_stubs
