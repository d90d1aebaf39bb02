use Rattle.bounds_plan.proofs.WaitingItems.{elaborated_need}
use Rattle.bounds_plan.proofs.elaborate_laws.elaborated_functions_need_few_temporaries.Goals as goal

pub returns : goal.returns
returns c = λ tree meanings layout flags. elaborated_need tree meanings layout flags
