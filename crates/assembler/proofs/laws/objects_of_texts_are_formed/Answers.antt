use Rattle.assembler.proofs.FormedLemmas.{assembled_formed}
use Rattle.assembler.proofs.laws.objects_of_texts_are_formed.Goals as goal

pub returns : goal.returns
returns c text o few e = assembled_formed text o few e
