use Rattle.std.proofs.Common.{◌≡◌, ◌++◌, length, take}
use Rattle.std.specs.Int.{w32}
use Rattle.std.specs.List.{flat_map}
use Rattle.obj_file.specs.InTurn.{le}
use Rattle.obj_file.specs.Object.{symbol_text}
use Rattle.obj_file.proofs.object_writer.put_symbols.Given as goal

abbrev pub invariant-loop-symbol : goal.invariant-loop-symbol
invariant-loop-symbol l = l.out.items ≡ l.fn.out.items ++ (le w32 (length l.symbols) ++ flat_map symbol_text (take l.symbol-index l.symbols))
