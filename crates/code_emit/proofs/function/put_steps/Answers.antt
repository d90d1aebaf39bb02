use Rattle.std.proofs.Common.{◌∷◌, ◌+◌, drop, arith, refl, ap, sym, ◌∙◌}
use Rattle.std.proofs.lemmas.List.{drop_more}
use Rattle.code_emit.specs.Plans.{plan_of}
use Rattle.code_emit.proofs.Loops.{next_step}
use Rattle.code_emit.proofs.function.put_steps.Goals as goal

pub all-preserved : goal.all-preserved
all-preserved c =
    let here = drop_more c.args.steps.now c.all.step-index _ (omega arith) ∙ ap (λ step. step ∷ drop (c.all.step-index + 1) c.args.steps.now) (sym c.step-item.is) in
    next_step (plan_of c.args.p.now) c.args.labels.now c.all.code.items c.put_step.new.code.items c.args.code.now.items c.args.steps.now _ c.all.step-index c.step-item.result here refl c.all.invariant c.in_ok-put_step.ensures
