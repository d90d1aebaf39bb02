use Rattle.mpx_core.proofs.Doing.{check_fails, check_holds}
use Rattle.mpx_core.proofs.checks.check.Goals as goal

pub returns-then-fails-clause-row : goal.returns-then-fails-clause-row
returns-then-fails-clause-row c s regs next m = check_fails s regs next c.args.b.now m c.args.fails c.args.value c.args.k c.if-fails.true

pub returns-clause-row : goal.returns-clause-row
returns-clause-row c s regs next m = check_holds s regs next c.args.b.now m c.args.fails c.args.value c.args.k c.if-fails.false
