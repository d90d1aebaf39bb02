use Rattle.std.proofs.Common.{subst, ◌++◌}
use Rattle.std.proofs.lemmas.Result.{err_from_is_err_and}
use Rattle.obj_linker.specs.Symbols.{Named, definitions, signed_imports}
use Rattle.obj_linker.specs.Faults.{twice, faults_of_imports, no_main}
use Rattle.obj_linker.specs.Told.{IsFirst}
use Rattle.obj_linker.proofs.Passing.{sooner, later}
use Rattle.obj_linker.proofs.linking.defined.Goals as goal

pub returns-in_err-imports_pass-clause-fault : goal.returns-in_err-imports_pass-clause-fault
returns-in_err-imports_pass-clause-fault c =
    let os = c.args.objects.now in
    let fault = c.in_err-imports_pass.field-0.0 in
    let e = err_from_is_err_and c.from_residual-in_err-imports_pass.result c.from_residual-in_err-imports_pass.ensures.1 in
    let found = subst (λ (n : Named). IsFirst fault (faults_of_imports os n c.in_ok-imports.imports)) c.in_ok-found.ensures.names c.in_err-imports_pass.ensures in
    let now = subst (λ (n : Named). IsFirst fault (faults_of_imports os (definitions os) n)) c.in_ok-imports.ensures found in
    let imports = faults_of_imports os (definitions os) (signed_imports os) in
    rw (e.1, e.2) (sooner fault (twice os ++ imports) (no_main os (definitions os)) (later fault (twice os) imports c.in_ok-found.ensures.fault now))
