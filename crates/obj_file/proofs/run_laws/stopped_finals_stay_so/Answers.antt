use Rattle.obj_file.proofs.FinalLaws.{final_stopped}
use Rattle.obj_file.proofs.run_laws.stopped_finals_stay_so.Goals as goal

pub returns : goal.returns
returns g c = final_stopped
