use Rattle.std.proofs.Common.{◌≡◌, ◌≤◌, drop, length}
use Rattle.c_check_statements.specs.Counts.{arrayed}
use Rattle.c_check_statements.proofs.counts.arrayed.Given as goal

abbrev pub invariant-values : goal.invariant-values
invariant-values l = (l.arrayed ≡ arrayed (drop l.i l.values) l.fn.kind) × (l.i ≤ length l.values)

abbrev pub decreases-values : goal.decreases-values
decreases-values l = l.i
