use Rattle.obj_file.proofs.RunLaws.{run_step}
use Rattle.obj_file.proofs.run_laws.a_run_is_its_first_event_and_the_rest.Goals as goal

pub returns : goal.returns
returns g c = run_step
