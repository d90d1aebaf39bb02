use Rattle.std.proofs.Common.{◌≡◌, ◌++◌, drop}
use Rattle.step_code.specs.Steps.{load_args}
use Rattle.code_emit.specs.Plans.{plan_of}
use Rattle.code_emit.proofs.arguments.load_args.Given as goal

abbrev pub invariant-all : goal.invariant-all
invariant-all l = l.out.items ++ load_args (plan_of l.fn.p) (drop l.arg-index l.args) l.i l.j ≡ l.fn.out.items ++ load_args (plan_of l.fn.p) l.fn.args 0 0
