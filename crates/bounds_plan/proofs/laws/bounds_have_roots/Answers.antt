use Rattle.bounds_plan.proofs.RootedCalls.{rooted-calls, rooted-start}
use Rattle.bounds_plan.proofs.laws.bounds_have_roots.Goals as goal

pub returns-clause-calls : goal.returns-clause-calls
returns-clause-calls c = rooted-calls

pub returns-clause-starts : goal.returns-clause-starts
returns-clause-starts c = rooted-start
