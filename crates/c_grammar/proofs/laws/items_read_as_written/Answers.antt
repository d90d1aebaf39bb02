use Rattle.c_grammar.proofs.Written as proof
use Rattle.c_grammar.proofs.laws.items_read_as_written.Goals as goal

pub returns : goal.returns
returns c = proof.external_as_written
