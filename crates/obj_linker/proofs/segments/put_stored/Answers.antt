use Rattle.std.proofs.Common.{◌∙◌, ◌++◌, ap}
use Rattle.obj_linker.specs.Image.{data_segment}
use Rattle.obj_linker.proofs.Steps.{grown}
use Rattle.obj_linker.proofs.Fitted.{fixes_fit}
use Rattle.obj_linker.proofs.segments.put_stored.Goals as goal

pub put_data-requires-clause-fit : goal.put_data-requires-clause-fit
put_data-requires-clause-fit c =
    fixes_fit c.args.objects.now c.args.plan.now c.all.object c.index-objects-object.result c.requires.fit c.all-test.true c.index-objects-object.is

pub all-preserved : goal.all-preserved
all-preserved c =
    let f = data_segment c.args.objects.now c.args.plan.now in
    c.in_ok-put_data.ensures
    ∙ (ap (λ o. c.all.out.items ++ f c.all.object o) c.index-objects-object.is
    ∙ grown f c.args.objects.now c.all.object c.index-objects-object.result c.args.out.now.items c.all.out.items c.all-test.true c.all.invariant)
