use Rattle.std.proofs.Common.{◌≡◌, ◌-◌}
use Rattle.obj_file.specs.Fields.{many_at}
use Rattle.obj_file.specs.Image.{after_place}
use Rattle.obj_file.specs.ImageReading.{place_at}
use Rattle.obj_file.proofs.Loop.{with_front}
use Rattle.obj_file.proofs.image_reader.places_of.Given as goal

abbrev pub invariant-loop : goal.invariant-loop
invariant-loop l = with_front l.places.items (many_at (place_at l.version l.files) after_place (l.count - l.counter) l.from l.rest) ≡ many_at (place_at l.version l.files) after_place l.count 0 l.bytes
