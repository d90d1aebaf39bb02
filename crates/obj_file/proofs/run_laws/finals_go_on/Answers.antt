use Rattle.obj_file.proofs.FinalLaws.{final_more}
use Rattle.obj_file.proofs.run_laws.finals_go_on.Goals as goal

pub returns : goal.returns
returns g c = final_more
