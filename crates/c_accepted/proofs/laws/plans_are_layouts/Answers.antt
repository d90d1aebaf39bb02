use Rattle.c_accepted.proofs.Planning.{frames_planned}
use Rattle.c_accepted.proofs.laws.plans_are_layouts.Goals as goal

pub returns : goal.returns
returns c = frames_planned
