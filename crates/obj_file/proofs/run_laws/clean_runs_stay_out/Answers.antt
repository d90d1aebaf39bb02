use Rattle.obj_file.proofs.FinalLaws.{clean_stays, stays_clean}
use Rattle.obj_file.proofs.run_laws.clean_runs_stay_out.Goals as goal

pub returns : goal.returns
returns g c ground turns s = (clean_stays ground turns s, stays_clean ground turns s)
