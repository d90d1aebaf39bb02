use Rattle.std.proofs.Common.{◌∙◌}
use Rattle.obj_linker.specs.Symbols.{ids}
use Rattle.obj_linker.specs.Gating.{mpx_gates}
use Rattle.obj_linker.specs.Image.{outer_segment}
use Rattle.obj_linker.proofs.Fitted.{got_more}
use Rattle.obj_linker.proofs.segments.put_outers.Goals as goal

pub all-preserved : goal.all-preserved
all-preserved c =
    c.in_ok-put_outer.ensures
    ∙ got_more (outer_segment mpx_gates c.args.objects.now c.args.plan.now) (ids c.args.plan.now.functions) c.all.number c.id.result c.args.out.now.items c.all.out.items c.id.ensures c.all.invariant
