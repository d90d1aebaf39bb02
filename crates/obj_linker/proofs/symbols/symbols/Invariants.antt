use Rattle.std.proofs.Common.{◌≡◌, take}
use Rattle.obj_linker.specs.Symbols.{numbered, ids_of}
use Rattle.obj_linker.proofs.symbols.symbols.Given as goal

abbrev pub invariant-all : goal.invariant-all
invariant-all l = l.out.items ≡ numbered ids_of 0 (take l.object l.objects)
