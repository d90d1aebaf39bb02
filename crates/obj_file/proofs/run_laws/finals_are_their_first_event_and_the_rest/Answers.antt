use Rattle.obj_file.proofs.FinalLaws.{final_step}
use Rattle.obj_file.proofs.run_laws.finals_are_their_first_event_and_the_rest.Goals as goal

pub returns : goal.returns
returns g c = final_step
