use Rattle.obj_file.proofs.RunLaws.{run_turn}
use Rattle.obj_file.proofs.run_laws.events_take_one_turn.Goals as goal

pub returns : goal.returns
returns g c = run_turn
