use Rattle.std.proofs.Common.{Some, drop}
use Rattle.c_check_statements.specs.Counts.{no_counts, counted}
use Rattle.c_check_statements.proofs.Counting.{Left}
use Rattle.c_check_statements.proofs.counts.read_counts.Given as goal

-- what is left of the counts adds what all of them do
abbrev pub invariant-exprs : goal.invariant-exprs
invariant-exprs l = Left (counted l.scope (Some no_counts) l.exprs) (counted l.scope (Some l.counts) (drop l.expr-index l.exprs)) l.initial.notes l.notes
