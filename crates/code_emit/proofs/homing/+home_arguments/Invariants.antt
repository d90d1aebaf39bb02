use Rattle.std.proofs.Common.{length}
use Rattle.code_emit.proofs.homing.+home_arguments.Given as goal

abbrev pub decreases-home_arguments : goal.decreases-home_arguments
decreases-home_arguments l = length l.parameters.now
