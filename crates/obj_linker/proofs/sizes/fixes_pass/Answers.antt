use Rattle.std.proofs.Common.{◌≡◌, ◌∙◌, ℕ, subst, get_or, take, List, []}
use Rattle.std.proofs.lemmas.Result.{err_from_is_err_and}
use Rattle.obj_file.specs.declared.object.Object.{Object}
use Rattle.obj_linker.specs.declared.fault.LinkFault.{LinkFault}
use Rattle.obj_linker.specs.Symbols.{numbered}
use Rattle.obj_linker.specs.Faults.{far_fix}
use Rattle.obj_linker.specs.Told.{IsFirst}
use Rattle.obj_linker.proofs.Passing.{fault_at, both_none}
use Rattle.obj_linker.proofs.Steps.{numbered_taken}
use Rattle.obj_linker.proofs.sizes.fixes_pass.Goals as goal

pub returns-in_err-fixes_of_object_pass : goal.returns-in_err-fixes_of_object_pass
returns-in_err-fixes_of_object_pass c =
    let os = c.args.objects.now in
    let o = c.index-objects-object.result in
    let fault = c.in_err-fixes_of_object_pass.field-0.0 in
    let f : ℕ → Object → List LinkFault = λ object o. numbered (far_fix os c.args.plan.now object o) 0 o.fixes in
    let e = err_from_is_err_and c.from_residual.result c.from_residual.ensures.1 in
    let now : IsFirst fault (f c.all.object (get_or os c.all.object o)) = subst (λ (x : Object). IsFirst fault (f c.all.object x)) c.index-objects-object.is c.in_err-fixes_of_object_pass.ensures in
    rw (e.1, e.2) (fault_at fault f os c.all.object o c.all-test.true c.all.invariant now)

pub all-preserved : goal.all-preserved
all-preserved c =
    let os = c.args.objects.now in
    let o = c.index-objects-object.result in
    let f : ℕ → Object → List LinkFault = λ object o. numbered (far_fix os c.args.plan.now object o) 0 o.fixes in
    let now : f c.all.object (get_or os c.all.object o) ≡ [] = subst (λ (x : Object). f c.all.object x ≡ []) c.index-objects-object.is c.in_ok-fixes_of_object_pass.ensures in
    numbered_taken f os c.all.object o c.all-test.true
    ∙ both_none (numbered f 0 (take c.all.object os)) (f c.all.object (get_or os c.all.object o)) c.all.invariant now
