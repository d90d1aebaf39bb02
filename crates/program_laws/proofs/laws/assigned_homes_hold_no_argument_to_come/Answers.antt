use Rattle.program_laws.proofs.Clear.{homes_clear}
use Rattle.program_laws.proofs.laws.assigned_homes_hold_no_argument_to_come.Goals as goal

pub returns : goal.returns
returns c = λ count f fits name h units p has are few granted first. homes_clear p first name f h units has are few granted fits.parameters
