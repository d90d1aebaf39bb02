use Rattle.std.proofs.Common.{◌≡◌, not, [], take}
use Rattle.std.specs.List.{filter}
use Rattle.obj_linker.specs.Symbols.{named_by, is_import}
use Rattle.obj_linker.specs.Faults.{repeated}
use Rattle.obj_linker.proofs.definitions.definitions.Given as goal

abbrev pub invariant-all : goal.invariant-all
invariant-all l = record {
  names : l.names ≡ named_by l.objects (filter (λ id. not (is_import l.objects id)) (take l.k l.ids));
  none : repeated l.objects [] (filter (λ id. not (is_import l.objects id)) (take l.k l.ids)) ≡ [];
}
