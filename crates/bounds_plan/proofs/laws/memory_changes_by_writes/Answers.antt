use Rattle.bounds_plan.proofs.Worlds.{only-calls, pieces-calls}
use Rattle.bounds_plan.proofs.laws.memory_changes_by_writes.Goals as goal

pub returns-clause-alone : goal.returns-clause-alone
returns-clause-alone c = only-calls

pub returns-clause-between : goal.returns-clause-between
returns-clause-between c = pieces-calls
