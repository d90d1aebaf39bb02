use Rattle.bound_tables.proofs.StoredEntries.{stored_back}
use Rattle.bound_tables.proofs.laws.stored_entries_are_read_back.Goals as goal

pub returns : goal.returns
returns c = stored_back
