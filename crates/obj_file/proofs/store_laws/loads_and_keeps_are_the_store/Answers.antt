use Rattle.obj_file.proofs.StoredServed.{loads_served, keeps_served, loads_far, keeps_far}
use Rattle.obj_file.proofs.store_laws.loads_and_keeps_are_the_store.Goals as goal

pub returns-clause-loads : goal.returns-clause-loads
returns-clause-loads c = loads_served

pub returns-clause-keeps : goal.returns-clause-keeps
returns-clause-keeps c = keeps_served

pub returns-clause-no_loads : goal.returns-clause-no_loads
returns-clause-no_loads c = loads_far

pub returns-clause-no_keeps : goal.returns-clause-no_keeps
returns-clause-no_keeps c = keeps_far
