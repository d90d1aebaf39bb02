use Rattle.asm_names.proofs.FoundWords.{words_found}
use Rattle.asm_names.proofs.laws.words_are_found.Goals as goal

pub returns : goal.returns
returns c = words_found
