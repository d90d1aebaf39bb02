use Rattle.std.proofs.Common.{sym}
use Rattle.seal_watch.proofs.Runs.{low_reached, low_missed, low_free}
use Rattle.seal_watch.proofs.sealed.sealed_below_the_end.Goals as goal

pub returns-in-None : goal.returns-in-None
returns-in-None c = sym (low_free c.args.s c.in-None.ensures)

pub returns-then-x-s : goal.returns-then-x-s
returns-then-x-s c = sym (low_reached c.args.s c.in-Some.x c.in-Some.ensures c.if-x-s.true)

pub returns-else-x-s : goal.returns-else-x-s
returns-else-x-s c = sym (low_missed c.args.s c.in-Some.x c.in-Some.ensures c.if-x-s.false)
