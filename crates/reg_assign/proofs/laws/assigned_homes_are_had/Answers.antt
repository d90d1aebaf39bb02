use Rattle.reg_assign.proofs.Having.{have_homes}
use Rattle.reg_assign.proofs.laws.assigned_homes_are_had.Goals as goal

pub returns : goal.returns
returns c = have_homes
