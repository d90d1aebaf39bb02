use Rattle.obj_file.proofs.RunLaws.{run_quiet}
use Rattle.obj_file.proofs.run_laws.quiet_events_may_be_left_out.Goals as goal

pub returns : goal.returns
returns g c = run_quiet
