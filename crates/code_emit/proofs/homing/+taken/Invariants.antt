use Rattle.std.proofs.Common.{length}
use Rattle.code_emit.proofs.homing.+taken.Given as goal

abbrev pub decreases-taken : goal.decreases-taken
decreases-taken l = length l.parameters.now
