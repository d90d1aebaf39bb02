use Rattle.bounds_plan.proofs.Copying.{elaborated_whole}
use Rattle.bounds_plan.proofs.elaborate_laws.elaborated_functions_copy_inside.Goals as goal

pub returns : goal.returns
returns c = λ tree meanings layout flags. elaborated_whole tree meanings layout flags
