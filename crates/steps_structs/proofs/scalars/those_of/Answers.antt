use Rattle.std.proofs.Common.{sym, ◌∙◌}
use Rattle.steps_structs.proofs.ScalarLemmas.{few_tell}
use Rattle.steps_structs.proofs.scalars.those_of.Goals as goal

pub returns-in-Some : goal.returns-in-Some
returns-in-Some c = λ all e. few_tell all c.in-Some.them (sym c.in-Some.is ∙ e)
