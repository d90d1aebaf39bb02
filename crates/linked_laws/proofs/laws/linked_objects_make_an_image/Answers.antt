use Rattle.linked_laws.proofs.Formed.{formed}
use Rattle.linked_laws.proofs.laws.linked_objects_make_an_image.Goals as goal

pub returns : goal.returns
returns c = formed
