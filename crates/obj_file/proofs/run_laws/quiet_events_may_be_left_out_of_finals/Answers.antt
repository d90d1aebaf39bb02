use Rattle.obj_file.proofs.FinalLaws.{final_quiet}
use Rattle.obj_file.proofs.run_laws.quiet_events_may_be_left_out_of_finals.Goals as goal

pub returns : goal.returns
returns g c = final_quiet
