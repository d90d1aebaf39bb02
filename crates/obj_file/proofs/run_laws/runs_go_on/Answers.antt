use Rattle.obj_file.proofs.RunLaws.{run_more}
use Rattle.obj_file.proofs.run_laws.runs_go_on.Goals as goal

pub returns : goal.returns
returns g c = run_more
