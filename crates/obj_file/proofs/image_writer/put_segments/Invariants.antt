use Rattle.std.proofs.Common.{◌≡◌, ◌++◌, length, take}
use Rattle.std.specs.Int.{w32}
use Rattle.std.specs.List.{flat_map}
use Rattle.obj_file.specs.InTurn.{le}
use Rattle.obj_file.specs.Image.{segment_text}
use Rattle.obj_file.proofs.image_writer.put_segments.Given as goal

abbrev pub invariant-loop-segment : goal.invariant-loop-segment
invariant-loop-segment l = l.out.items ≡ l.fn.out.items ++ (le w32 (length l.segments) ++ flat_map segment_text (take l.segment-index l.segments))
