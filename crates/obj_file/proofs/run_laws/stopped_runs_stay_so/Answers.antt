use Rattle.obj_file.proofs.RunLaws.{run_ended}
use Rattle.obj_file.proofs.run_laws.stopped_runs_stay_so.Goals as goal

pub returns : goal.returns
returns g c = run_ended
