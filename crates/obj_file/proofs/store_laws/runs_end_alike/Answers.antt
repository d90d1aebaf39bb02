use Rattle.obj_file.proofs.StoredRuns.{ends_within, runs_end_alike}
use Rattle.obj_file.proofs.store_laws.runs_end_alike.Goals as goal

pub returns-clause-within : goal.returns-clause-within
returns-clause-within c reads outers mode n turns s t valid = ends_within reads outers mode valid n turns s t

pub returns-clause-whole : goal.returns-clause-whole
returns-clause-whole c reads outers mode turns s t valid = runs_end_alike reads outers mode valid turns s t
