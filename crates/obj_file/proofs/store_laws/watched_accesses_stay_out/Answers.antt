use Rattle.obj_file.proofs.StoredWatch.{watched_stays, legacy_stays}
use Rattle.obj_file.proofs.store_laws.watched_accesses_stay_out.Goals as goal

pub returns-clause-accesses : goal.returns-clause-accesses
returns-clause-accesses g c = watched_stays

pub returns-clause-legacy : goal.returns-clause-legacy
returns-clause-legacy g c = legacy_stays
