use Rattle.c_grammar.proofs.Written as proof
use Rattle.c_grammar.proofs.laws.conditionals_read_as_written.Goals as goal

pub returns : goal.returns
returns c = proof.conditional_as_written
