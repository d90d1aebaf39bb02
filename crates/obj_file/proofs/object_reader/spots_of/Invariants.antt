use Rattle.std.proofs.Common.{◌≡◌, ◌-◌}
use Rattle.obj_file.specs.Fields.{many_at}
use Rattle.obj_file.specs.Object.{after_spot}
use Rattle.obj_file.specs.ObjectReading.{spot_at}
use Rattle.obj_file.proofs.Loop.{with_front}
use Rattle.obj_file.proofs.object_reader.spots_of.Given as goal

abbrev pub invariant-loop : goal.invariant-loop
invariant-loop l = with_front l.spots.items (many_at (spot_at l.version l.code) after_spot (l.count - l.counter) l.from l.rest) ≡ many_at (spot_at l.version l.code) after_spot l.count 0 l.bytes
