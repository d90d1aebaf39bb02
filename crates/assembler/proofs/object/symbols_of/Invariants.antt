use Rattle.std.proofs.Common.{◌≡◌, take}
use Rattle.assembler.proofs.object.symbols_of.Given as goal

abbrev pub invariant-loop-number : goal.invariant-loop-number
invariant-loop-number l = l.symbols.items ≡ take l.number l.table
