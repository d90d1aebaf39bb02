use Rattle.std.proofs.Common.{◌≡◌, take}
use Rattle.std.specs.Prelude.{count_by}
use Rattle.obj_linker.specs.Image.{has_file}
use Rattle.obj_linker.proofs.sizes.count_of_files.Given as goal

abbrev pub invariant-all : goal.invariant-all
invariant-all l = l.count ≡ count_by has_file (take l.object-index l.objects)
