use Rattle.seal_watch.proofs.Runs.{clear_verdict}
use Rattle.seal_watch.proofs.verdicts.judge.Goals as goal

pub returns-then-is_clear : goal.returns-then-is_clear
returns-then-is_clear c = clear_verdict c.args.i.now c.args.from c.args.s (c.is_clear.ensures c.if-is_clear.true)
