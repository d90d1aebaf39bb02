use Rattle.program_laws.proofs.Bridge.{do_there}
use Rattle.program_laws.proofs.laws.calls_at_the_border_are_calls_of_code.Goals as goal

pub returns : goal.returns
returns c = do_there
