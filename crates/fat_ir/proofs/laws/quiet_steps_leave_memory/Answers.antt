use Rattle.fat_ir.proofs.Quiet.{quiet-does}
use Rattle.fat_ir.proofs.laws.quiet_steps_leave_memory.Goals as goal

pub returns : goal.returns
returns c = quiet-does
