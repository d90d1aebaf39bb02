use Rattle.linked_laws.proofs.Places.{stored_stay, legacy_stays}
use Rattle.linked_laws.proofs.laws.places_stay_where_instrumented_code_grows.Goals as goal

pub returns-clause-stored : goal.returns-clause-stored
returns-clause-stored c = stored_stay

pub returns-clause-legacy : goal.returns-clause-legacy
returns-clause-legacy c = legacy_stays
