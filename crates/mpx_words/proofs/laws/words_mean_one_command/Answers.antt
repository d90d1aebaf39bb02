use Rattle.mpx_words.proofs.Meanings.{one_meaning}
use Rattle.mpx_words.proofs.laws.words_mean_one_command.Goals as goal

pub returns : goal.returns
returns c = one_meaning
