use Rattle.c_tokens.proofs.Whole.{tokens_longest}
use Rattle.c_tokens.proofs.laws.tokens_are_longest.Goals as goal

pub returns : goal.returns
returns c = tokens_longest
