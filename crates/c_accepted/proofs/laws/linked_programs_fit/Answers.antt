use Rattle.c_accepted.proofs.Linking.{linked_fits}
use Rattle.c_accepted.proofs.laws.linked_programs_fit.Goals as goal

pub returns : goal.returns
returns c = linked_fits
