use Rattle.obj_file.proofs.ObjectLaws.{one_spelling}
use Rattle.obj_file.proofs.laws.objects_have_one_spelling.Goals as goal

pub returns : goal.returns
returns c = one_spelling
