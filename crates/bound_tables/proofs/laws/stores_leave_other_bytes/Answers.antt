use Rattle.bound_tables.proofs.StoredEntries.{stored_below, stored_above}
use Rattle.bound_tables.proofs.laws.stores_leave_other_bytes.Goals as goal

pub returns-clause-before : goal.returns-clause-before
returns-clause-before c = stored_below

pub returns-clause-behind : goal.returns-clause-behind
returns-clause-behind c = stored_above
