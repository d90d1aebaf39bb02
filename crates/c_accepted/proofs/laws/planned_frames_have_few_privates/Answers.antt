use Rattle.c_accepted.proofs.Small.{privates_few}
use Rattle.c_accepted.proofs.laws.planned_frames_have_few_privates.Goals as goal

pub returns : goal.returns
returns c = privates_few
