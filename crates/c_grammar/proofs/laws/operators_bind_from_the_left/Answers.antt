use Rattle.c_grammar.proofs.Written as proof
use Rattle.c_grammar.proofs.laws.operators_bind_from_the_left.Goals as goal

pub returns : goal.returns
returns c = proof.binary_as_written
