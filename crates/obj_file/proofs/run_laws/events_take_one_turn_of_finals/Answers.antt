use Rattle.obj_file.proofs.FinalLaws.{final_turn}
use Rattle.obj_file.proofs.run_laws.events_take_one_turn_of_finals.Goals as goal

pub returns : goal.returns
returns g c = final_turn
