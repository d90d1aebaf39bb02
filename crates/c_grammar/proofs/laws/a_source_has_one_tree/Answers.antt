use Rattle.c_grammar.proofs.Sources as sources
use Rattle.c_grammar.proofs.laws.a_source_has_one_tree.Goals as goal

pub returns : goal.returns
returns c = sources.one_tree
