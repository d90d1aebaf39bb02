use Rattle.c_grammar.proofs.Sources as sources
use Rattle.c_grammar.proofs.laws.one_token_is_the_first_that_is_too_deep.Goals as goal

pub returns : goal.returns
returns c = sources.one_deep
