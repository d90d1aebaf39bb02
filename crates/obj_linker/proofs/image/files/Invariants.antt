use Rattle.std.proofs.Common.{◌≡◌, take}
use Rattle.obj_linker.specs.Image.{files}
use Rattle.obj_linker.proofs.image.files.Given as goal

abbrev pub invariant-all : goal.invariant-all
invariant-all l = l.out.items ≡ files (take l.k l.objects)
