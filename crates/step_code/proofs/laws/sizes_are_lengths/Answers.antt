use Rattle.step_code.proofs.Sizes.{length_bytes, length_steps}
use Rattle.step_code.proofs.laws.sizes_are_lengths.Goals as goal

pub returns-clause-pieces : goal.returns-clause-pieces
returns-clause-pieces c = length_bytes

pub returns-clause-steps : goal.returns-clause-steps
returns-clause-steps c = length_steps
