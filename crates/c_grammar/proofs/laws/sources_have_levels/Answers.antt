use Rattle.c_grammar.proofs.Sources as sources
use Rattle.c_grammar.proofs.laws.sources_have_levels.Goals as goal

pub returns : goal.returns
returns c = sources.sources_have_levels
