use Rattle.std.proofs.Common.{◌≡◌, ◌-◌, []}
use Rattle.obj_file.specs.Fields.{many_at}
use Rattle.obj_file.specs.Object.{after_symbol}
use Rattle.obj_file.specs.ObjectReading.{symbol_at}
use Rattle.obj_file.proofs.Loop.{with_front}
use Rattle.obj_file.proofs.object_reader.symbols_of.Given as goal

abbrev pub invariant-loop : goal.invariant-loop
invariant-loop l = with_front l.symbols.items (many_at (symbol_at l.parts) after_symbol (l.count - l.counter) l.symbols.items l.rest) ≡ many_at (symbol_at l.parts) after_symbol l.count [] l.bytes
