use Rattle.code_laws.proofs.Placing.{steps_stand}
use Rattle.code_laws.proofs.laws.steps_stand_where_their_bytes_are.Goals as goal

pub returns : goal.returns
returns c = steps_stand
