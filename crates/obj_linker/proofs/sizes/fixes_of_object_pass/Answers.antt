use Rattle.std.proofs.Common.{◌≡◌, ◌∙◌, ◌<◌, ℕ, subst, get_or, length, take, List, [], pos}
use Rattle.std.proofs.lemmas.Result.{err_from_is_err_and}
use Rattle.obj_file.specs.declared.object.Fix.{Fix}
use Rattle.obj_linker.specs.declared.fault.LinkFault.{LinkFault}
use Rattle.obj_linker.specs.Symbols.{numbered}
use Rattle.obj_linker.specs.Faults.{far_fix}
use Rattle.obj_linker.specs.Told.{IsFirst}
use Rattle.obj_linker.proofs.Passing.{fault_at, both_none}
use Rattle.obj_linker.proofs.Steps.{numbered_taken}
use Rattle.obj_linker.proofs.sizes.fixes_of_object_pass.Goals as goal

pub returns-in_err-fix_passes : goal.returns-in_err-fix_passes
returns-in_err-fix_passes c =
    let o = c.args.o.now in
    let fault = c.in_err-fix_passes.field-0.0 in
    let f : ℕ → Fix → List LinkFault = far_fix c.args.objects.now c.args.plan.now c.args.object o in
    let e = err_from_is_err_and c.from_residual.result c.from_residual.ensures.1 in
    let less : c.all.fix < length o.fixes = subst (λ (l : List Fix). c.all.fix < length l) c.as_slice-fixes.ensures c.all-test.true in
    let now = subst (λ (l : List Fix). IsFirst fault (f c.all.fix (get_or l c.all.fix (record { part = 0; offset = 0; form = 0; symbol = 0; addend = pos 0 })))) c.as_slice-fixes.ensures c.in_err-fix_passes.ensures in
    rw (e.1, e.2) (fault_at fault f o.fixes c.all.fix (record { part = 0; offset = 0; form = 0; symbol = 0; addend = pos 0 }) less c.all.invariant now)

pub all-preserved : goal.all-preserved
all-preserved c =
    let o = c.args.o.now in
    let d : Fix = record { part = 0; offset = 0; form = 0; symbol = 0; addend = pos 0 } in
    let f : ℕ → Fix → List LinkFault = far_fix c.args.objects.now c.args.plan.now c.args.object o in
    let less : c.all.fix < length o.fixes = subst (λ (l : List Fix). c.all.fix < length l) c.as_slice-fixes.ensures c.all-test.true in
    let now : f c.all.fix (get_or o.fixes c.all.fix d) ≡ [] = subst (λ (l : List Fix). f c.all.fix (get_or l c.all.fix d) ≡ []) c.as_slice-fixes.ensures c.in_ok-fix_passes.ensures in
    numbered_taken f o.fixes c.all.fix d less
    ∙ both_none (numbered f 0 (take c.all.fix o.fixes)) (f c.all.fix (get_or o.fixes c.all.fix d)) c.all.invariant now
