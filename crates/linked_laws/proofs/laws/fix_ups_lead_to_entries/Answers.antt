use Rattle.linked_laws.proofs.Calls.{leads_to_function, leads_to_outer, leads_to_stub}
use Rattle.linked_laws.proofs.laws.fix_ups_lead_to_entries.Goals as goal

pub returns-clause-function : goal.returns-clause-function
returns-clause-function c = λ os k o f d found. leads_to_function os k o f d found

pub returns-clause-outer : goal.returns-clause-outer
returns-clause-outer c = λ os k o f d found. leads_to_outer os k o f d found

pub returns-clause-stub : goal.returns-clause-stub
returns-clause-stub c = λ os k o f d found. leads_to_stub os k o f d found
