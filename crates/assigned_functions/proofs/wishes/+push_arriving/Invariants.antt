use Rattle.std.proofs.Common.{length}
use Rattle.assigned_functions.proofs.wishes.+push_arriving.Given as goal

abbrev pub decreases-push_arriving : goal.decreases-push_arriving
decreases-push_arriving l = length l.parameters.now
