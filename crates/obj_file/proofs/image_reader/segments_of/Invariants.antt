use Rattle.std.proofs.Common.{◌≡◌, ◌-◌}
use Rattle.obj_file.specs.Fields.{many_at}
use Rattle.obj_file.specs.Image.{segment_end}
use Rattle.obj_file.specs.ImageReading.{segment_at}
use Rattle.obj_file.proofs.Loop.{with_front}
use Rattle.obj_file.proofs.image_reader.segments_of.Given as goal

abbrev pub invariant-loop : goal.invariant-loop
invariant-loop l = with_front l.segments.items (many_at segment_at segment_end (l.count - l.counter) l.from l.rest) ≡ many_at segment_at segment_end l.count 0 l.bytes
