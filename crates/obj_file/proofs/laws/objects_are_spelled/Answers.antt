use Rattle.obj_file.proofs.ObjectLaws.{objects_spelled}
use Rattle.obj_file.proofs.laws.objects_are_spelled.Goals as goal

pub returns : goal.returns
returns c = objects_spelled
