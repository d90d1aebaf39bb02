use Rattle.linked_laws.proofs.Outside.{data_same, legacy_same, same_entries, same_object}
use Rattle.linked_laws.proofs.laws.legacy_code_and_data_stay_where_instrumented_code_changes.Goals as goal

pub returns-clause-stored : goal.returns-clause-stored
returns-clause-stored c = λ os ps same k o p a b. data_same os ps same k o p (same_object os ps same k o p a b)

pub returns-clause-legacy : goal.returns-clause-legacy
returns-clause-legacy c = λ os ps same k o p a b legacy. legacy_same os ps same k o p (same_object os ps same k o p a b) a legacy

pub returns-clause-outers : goal.returns-clause-outers
returns-clause-outers c = same_entries
