use Rattle.program_laws.proofs.Whole.{program_means}
use Rattle.program_laws.proofs.laws.images_end_as_their_sources_mean.Goals as goal

pub returns : goal.returns
returns c = program_means
