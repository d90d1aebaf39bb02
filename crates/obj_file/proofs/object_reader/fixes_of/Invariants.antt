use Rattle.std.proofs.Common.{◌≡◌, ◌-◌}
use Rattle.obj_file.specs.Fields.{many_at}
use Rattle.obj_file.specs.Object.{fix_end, no_fix}
use Rattle.obj_file.specs.ObjectReading.{fix_at}
use Rattle.obj_file.proofs.Loop.{with_front}
use Rattle.obj_file.proofs.object_reader.fixes_of.Given as goal

abbrev pub invariant-loop : goal.invariant-loop
invariant-loop l = with_front l.fixes.items (many_at (fix_at l.parts l.symbols) fix_end (l.count - l.counter) l.before l.rest) ≡ many_at (fix_at l.parts l.symbols) fix_end l.count no_fix l.bytes
