use Rattle.c_tokens.proofs.Cutting.{tokens_cut}
use Rattle.c_tokens.proofs.Recut.{cut_has}
use Rattle.c_tokens.proofs.laws.tokens_stand.Goals as goal

pub returns : goal.returns
returns c = λ file bytes found. (tokens_cut file bytes found, cut_has file bytes found)
