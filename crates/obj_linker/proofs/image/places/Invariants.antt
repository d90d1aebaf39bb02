use Rattle.std.proofs.Common.{◌≡◌, length, take}
use Rattle.obj_linker.specs.Symbols.{numbered}
use Rattle.obj_linker.specs.Image.{files, places_of}
use Rattle.obj_linker.proofs.image.places.Given as goal

abbrev pub invariant-all : goal.invariant-all
invariant-all l = record {
  out : l.out.items ≡ numbered (places_of l.objects l.plan) 0 (take l.object l.objects);
  file : l.file ≡ length (files (take l.object l.objects));
}
