use Rattle.bounds_plan.proofs.Homes.{elaborated_assignable}
use Rattle.bounds_plan.proofs.elaborate_laws.elaborated_functions_are_assignable.Goals as goal

pub returns : goal.returns
returns c = elaborated_assignable
