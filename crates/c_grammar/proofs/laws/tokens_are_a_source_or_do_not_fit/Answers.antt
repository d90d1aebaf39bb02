use Rattle.c_grammar.proofs.Sources as sources
use Rattle.c_grammar.proofs.laws.tokens_are_a_source_or_do_not_fit.Goals as goal

pub returns : goal.returns
returns c = sources.source_or_bad
