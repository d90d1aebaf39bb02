use Rattle.std.proofs.Common.{◌≡◌, ◌++◌, length, take}
use Rattle.std.specs.Int.{w32}
use Rattle.std.specs.List.{flat_map}
use Rattle.obj_file.specs.declared.parts.Version.TheVariants.{Second}
use Rattle.obj_file.specs.InTurn.{le}
use Rattle.obj_file.specs.Image.{place_text}
use Rattle.obj_file.proofs.image_writer.put_places.Given as goal

abbrev pub invariant-loop-place : goal.invariant-loop-place
invariant-loop-place l = l.out.items ≡ l.fn.out.items ++ (le w32 (length l.places) ++ flat_map (place_text Second) (take l.place-index l.places))
