use Rattle.step_code.proofs.Sizes.{piece_size}
use Rattle.step_code.proofs.laws.pieces_have_one_size.Goals as goal

pub returns : goal.returns
returns c = piece_size
