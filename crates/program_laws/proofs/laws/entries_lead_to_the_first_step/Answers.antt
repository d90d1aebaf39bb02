use Rattle.program_laws.proofs.Whole.{enters_so}
use Rattle.program_laws.proofs.laws.entries_lead_to_the_first_step.Goals as goal

pub returns : goal.returns
returns c = enters_so
