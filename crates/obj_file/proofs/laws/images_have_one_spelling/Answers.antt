use Rattle.obj_file.proofs.ImageLaws.{one_spelling}
use Rattle.obj_file.proofs.laws.images_have_one_spelling.Goals as goal

pub returns : goal.returns
returns c = one_spelling
