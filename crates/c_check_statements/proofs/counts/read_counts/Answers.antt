use Rattle.std.proofs.Common.{rules}
use Rattle.c_check_statements.proofs.Counting.{counts_stop, counts_go, counts_end}
use Rattle.c_check_statements.proofs.Steps.{next_of, none_of}
use Rattle.c_check_statements.proofs.counts.read_counts.Goals as goal

pub returns-in_err-t : goal.returns-in_err-t
returns-in_err-t c = counts_stop _ _ _ _ _ c.exprs.invariant (next_of c.args.exprs.now c.exprs.expr-index c.expr-item.result c.exprs-test.true c.expr-item.is) c.in_err-t.ensures (search rules)

pub exprs-preserved : goal.exprs-preserved
exprs-preserved c = counts_go _ _ _ _ _ _ c.exprs.invariant (next_of c.args.exprs.now c.exprs.expr-index c.expr-item.result c.exprs-test.true c.expr-item.is) c.in_ok-t.ensures c.in_ok-counts.ensures

pub returns : goal.returns
returns c = counts_end _ _ _ c.exprs.invariant (none_of c.args.exprs.now c.exprs.expr-index c.exprs-test.false)
