use Rattle.c_grammar.proofs.Sources as sources
use Rattle.c_grammar.proofs.laws.one_token_is_the_first_that_does_not_fit.Goals as goal

pub returns : goal.returns
returns c = sources.one_bad
