use Rattle.program_laws.proofs.Whole.{program_does}
use Rattle.program_laws.proofs.laws.images_end_as_their_steps_do.Goals as goal

pub returns : goal.returns
returns c = program_does
