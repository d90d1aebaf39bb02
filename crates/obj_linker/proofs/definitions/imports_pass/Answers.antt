use Rattle.std.proofs.Common.{◌≡◌, ◌∙◌, ap, sym, subst, get_or, Option, List, true}
use Rattle.std.proofs.lemmas.Result.{err_from_is_err_and}
use Rattle.std.specs.List.{filter, flat_map}
use Rattle.obj_linker.specs.declared.fault.LinkFault.{LinkFault}
use Rattle.obj_linker.specs.declared.parts.SymbolId.{SymbolId}
use Rattle.obj_linker.specs.Symbols.{is_import, name_at, find, symbol_id}
use Rattle.obj_linker.specs.Faults.{import_faults}
use Rattle.obj_linker.specs.Told.{IsFirst}
use Rattle.obj_linker.proofs.Named.{first_of_import}
use Rattle.obj_linker.proofs.definitions.imports_pass.Goals as goal

pub returns-in_err-import_passes : goal.returns-in_err-import_passes
returns-in_err-import_passes c =
    let os = c.args.objects.now in
    let ids = c.args.ids.now in
    let fault = c.in_err-import_passes.field-0.0 in
    let id : SymbolId = get_or ids c.all.k (symbol_id 0 0) in
    let f : SymbolId → List LinkFault = λ id. import_faults os c.args.imports.now id (find (name_at os id) c.args.defined.now) in
    let e = err_from_is_err_and c.from_residual.result c.from_residual.ensures.1 in
    let does : is_import os id ≡ true = sym c.is_import.ensures ∙ c.if-is_import.true in
    let definition : c.find-definition.result ≡ find (name_at os id) c.args.defined.now = c.find-definition.ensures ∙ ap (λ n. find n c.args.defined.now) c.name_at.ensures in
    let now : IsFirst fault (f id) = subst (λ (x : Option SymbolId). IsFirst fault (import_faults os c.args.imports.now id x)) definition c.in_err-import_passes.ensures in
    rw (e.1, e.2) (subst (λ (l : List SymbolId). IsFirst fault (flat_map f (filter (is_import os) l))) c.requires
    (first_of_import fault f (is_import os) ids c.all.k (symbol_id 0 0) c.all-test.true does c.all.invariant now))
