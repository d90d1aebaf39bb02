use Rattle.std.proofs.Common.{arith}
use Rattle.code_emit.specs.Plans.{plan_of}
use Rattle.code_emit.proofs.Loops.{next_unset}
use Rattle.code_emit.proofs.homing.unset_from.Goals as goal

pub all-preserved : goal.all-preserved
all-preserved c = next_unset (plan_of c.args.p.now) c.all.out.items c.unset_home.new.out.items _ c.all.x c.args.private (omega arith) c.in_ok-unset_home.ensures c.all.invariant
