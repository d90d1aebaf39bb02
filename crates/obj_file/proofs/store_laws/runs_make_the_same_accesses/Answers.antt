use Rattle.obj_file.proofs.StoredRuns.{same_accesses}
use Rattle.obj_file.proofs.store_laws.runs_make_the_same_accesses.Goals as goal

pub returns : goal.returns
returns c reads outers mode turns s t valid = same_accesses reads outers mode valid turns s t
