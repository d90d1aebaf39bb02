use Rattle.c_grammar.proofs.Sources as sources
use Rattle.c_grammar.proofs.laws.what_does_not_fit_is_no_source.Goals as goal

pub returns : goal.returns
returns c = sources.bad_is_none
