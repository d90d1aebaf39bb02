use Rattle.std.proofs.Common.{◌≡◌, take}
use Rattle.std.specs.List.{fold, flat_map}
use Rattle.obj_linker.specs.Symbols.{with_name}
use Rattle.obj_linker.specs.Placement.{stub_call}
use Rattle.obj_linker.proofs.stubs.add_stubs.Given as goal

abbrev pub invariant-all : goal.invariant-all
invariant-all l = l.stubs ≡ fold (with_name l.objects) l.fn.stubs (flat_map (stub_call l.objects l.defined l.object l.o) (take l.k l.o.fixes))
