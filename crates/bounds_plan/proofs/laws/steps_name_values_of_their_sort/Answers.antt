use Rattle.std.proofs.Common.{arith}
use Rattle.bounds_plan.proofs.Sorts.{steps-right, all-numbered}
use Rattle.bounds_plan.proofs.laws.steps_name_values_of_their_sort.Goals as goal

pub returns-clause-sorts : goal.returns-clause-sorts
returns-clause-sorts c = steps-right

pub returns-clause-numbered : goal.returns-clause-numbered
returns-clause-numbered c = all-numbered

pub returns-clause-arrived : goal.returns-clause-arrived
returns-clause-arrived c = λ f name. omega arith
