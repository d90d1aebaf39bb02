use Rattle.c_grammar.proofs.SoundTokens as proof
use Rattle.c_grammar.proofs.laws.programs_are_formed.Goals as goal

pub returns : goal.returns
returns c = proof.programs_are_formed
