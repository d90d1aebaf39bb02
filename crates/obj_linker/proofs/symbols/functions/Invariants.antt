use Rattle.std.proofs.Common.{◌≡◌, take}
use Rattle.std.specs.List.{filter}
use Rattle.obj_linker.specs.Symbols.{named_by, is_c_function}
use Rattle.obj_linker.proofs.symbols.functions.Given as goal

abbrev pub invariant-loop-id : goal.invariant-loop-id
invariant-loop-id l = l.names ≡ named_by l.objects (filter (is_c_function l.objects) (take l.id-index l.ids))
