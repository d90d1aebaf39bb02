use Rattle.std.proofs.Common.{◌≡◌, ◌++◌, ◌-◌, []}
use Rattle.step_code.specs.Homing.{unset_from}
use Rattle.code_emit.specs.Plans.{plan_of}
use Rattle.code_emit.proofs.homing.unset_from.Given as goal

abbrev pub invariant-all : goal.invariant-all
invariant-all l = l.out.items ++ unset_from (plan_of l.fn.p) l.x (l.private - l.x) [] ≡ l.fn.out.items ++ unset_from (plan_of l.fn.p) l.fn.from (l.private - l.fn.from) []

abbrev pub decreases-all : goal.decreases-all
decreases-all l = l.private - l.x
