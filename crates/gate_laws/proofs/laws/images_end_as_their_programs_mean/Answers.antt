use Rattle.gate_laws.proofs.Images.{image_means}
use Rattle.gate_laws.proofs.laws.images_end_as_their_programs_mean.Goals as goal

pub returns : goal.returns
returns c = image_means
