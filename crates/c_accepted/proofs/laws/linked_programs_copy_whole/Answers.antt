use Rattle.c_accepted.proofs.Linking.{linked_whole}
use Rattle.c_accepted.proofs.laws.linked_programs_copy_whole.Goals as goal

pub returns : goal.returns
returns c = linked_whole
