use Rattle.gate_laws.proofs.Whole.{image_ends}
use Rattle.gate_laws.proofs.laws.images_end_as_their_programs_do.Goals as goal

pub returns : goal.returns
returns c = image_ends
