use Rattle.obj_file.proofs.ImageLaws.{images_spelled}
use Rattle.obj_file.proofs.laws.images_are_spelled.Goals as goal

pub returns : goal.returns
returns c = images_spelled
