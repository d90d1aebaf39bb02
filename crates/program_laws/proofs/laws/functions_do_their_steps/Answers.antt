use Rattle.program_laws.proofs.Whole.{do_deeper, stop_deepest}
use Rattle.program_laws.proofs.laws.functions_do_their_steps.Goals as goal

pub returns-clause-deeper : goal.returns-clause-deeper
returns-clause-deeper c = do_deeper

pub returns-clause-deepest : goal.returns-clause-deepest
returns-clause-deepest c = stop_deepest
