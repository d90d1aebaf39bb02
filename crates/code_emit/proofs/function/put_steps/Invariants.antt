use Rattle.std.proofs.Common.{◌≡◌, ◌++◌, drop, length}
use Rattle.code_emit.specs.Plans.{plan_of}
use Rattle.code_emit.specs.Unlinked.{unlinked_steps}
use Rattle.code_emit.proofs.function.put_steps.Given as goal

abbrev pub invariant-all : goal.invariant-all
invariant-all l = l.code.items ++ unlinked_steps (plan_of l.fn.p) l.fn.labels (length l.code.items) (drop l.step-index l.steps) ≡ l.fn.code.items ++ unlinked_steps (plan_of l.fn.p) l.fn.labels (length l.fn.code.items) l.steps
