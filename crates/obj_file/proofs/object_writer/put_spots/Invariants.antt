use Rattle.std.proofs.Common.{◌≡◌, ◌++◌, length, take}
use Rattle.std.specs.Int.{w32}
use Rattle.std.specs.List.{flat_map}
use Rattle.obj_file.specs.declared.parts.Version.TheVariants.{Second}
use Rattle.obj_file.specs.InTurn.{le}
use Rattle.obj_file.specs.Object.{spot_text}
use Rattle.obj_file.proofs.object_writer.put_spots.Given as goal

abbrev pub invariant-loop-spot : goal.invariant-loop-spot
invariant-loop-spot l = l.out.items ≡ l.fn.out.items ++ (le w32 (length l.spots) ++ flat_map (spot_text Second) (take l.spot-index l.spots))
