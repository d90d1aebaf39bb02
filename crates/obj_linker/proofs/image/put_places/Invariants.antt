use Rattle.std.proofs.Common.{◌≡◌, ◌++◌, map, take}
use Rattle.obj_linker.specs.Image.{place_at}
use Rattle.obj_linker.proofs.image.put_places.Given as goal

abbrev pub invariant-all : goal.invariant-all
invariant-all l = l.out.items ≡ l.fn.out.items ++ map (place_at l.code l.file) (take l.k l.places)
