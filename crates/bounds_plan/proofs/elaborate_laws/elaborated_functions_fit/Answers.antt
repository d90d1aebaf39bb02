use Rattle.bounds_plan.proofs.FittingItems.{elaborated_fit}
use Rattle.bounds_plan.proofs.elaborate_laws.elaborated_functions_fit.Goals as goal

pub returns : goal.returns
returns c = λ tree meanings layout flags takes. elaborated_fit takes tree meanings layout flags
