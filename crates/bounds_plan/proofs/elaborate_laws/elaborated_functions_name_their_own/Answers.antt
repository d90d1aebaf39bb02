use Rattle.bounds_plan.proofs.NamingItems.{elaborated_name}
use Rattle.bounds_plan.proofs.elaborate_laws.elaborated_functions_name_their_own.Goals as goal

pub returns : goal.returns
returns c = elaborated_name
