use Rattle.std.proofs.Common.{◌≡◌, [], take}
use Rattle.std.specs.List.{filter, flat_map}
use Rattle.obj_linker.specs.Symbols.{is_import, name_at, find}
use Rattle.obj_linker.specs.Faults.{import_faults}
use Rattle.obj_linker.proofs.definitions.imports_pass.Given as goal

abbrev pub invariant-all : goal.invariant-all
invariant-all l = flat_map (λ id. import_faults l.objects l.imports id (find (name_at l.objects id) l.defined)) (filter (is_import l.objects) (take l.k l.ids)) ≡ []
