use Rattle.linked_laws.proofs.Loaded.{loaded_so}
use Rattle.linked_laws.proofs.laws.linked_images_are_loaded.Goals as goal

pub returns : goal.returns
returns c = λ reads reader preserve os v linked. loaded_so reads reader preserve os v linked
