use Rattle.std.proofs.Common.{◌≡◌, ◌++◌, take}
use Rattle.obj_linker.specs.Symbols.{numbered, id_with}
use Rattle.obj_linker.proofs.symbols.ids_of.Given as goal

abbrev pub invariant-all : goal.invariant-all
invariant-all l = l.out.items ≡ l.fn.out.items ++ numbered (id_with l.object) 0 (take l.symbol l.o.symbols)
