use Rattle.obj_file.proofs.StoredRuns.{run_stays_out, run_stayed_out}
use Rattle.obj_file.proofs.store_laws.either_run_stays_out.Goals as goal

pub returns : goal.returns
returns c reads outers mode turns s t valid h = (run_stays_out reads outers mode valid turns s t h, run_stayed_out reads outers mode valid turns s t h)
