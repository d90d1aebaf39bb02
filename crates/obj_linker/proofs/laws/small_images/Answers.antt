use Rattle.std.proofs.Common.{refl}
use Rattle.obj_file.specs.InTurn.{le}
use Rattle.obj_linker.proofs.laws.small_images.Goals as goal

pub returns-clause-two : goal.returns-clause-two
unfolding le
returns-clause-two c = refl
