use Rattle.std.proofs.Common.{◌<◌, ◌^◌, sym, subst, length}
use Rattle.obj_linker.specs.declared.plan.Plan.{Plan}
use Rattle.obj_linker.specs.Limits.{IsLow}
use Rattle.obj_linker.specs.Gating.{GatesReach}
use Rattle.obj_linker.proofs.Reaching.{sizes_of, functions_few, stubs_few, plan_low, gates_reach}
use Rattle.obj_linker.proofs.linking.finish.Goals as goal

pub sizes_pass-requires-clause-functions : goal.sizes_pass-requires-clause-functions
sizes_pass-requires-clause-functions c =
    subst (λ (p : Plan). length p.functions < 2 ^ 53) (sym c.requires.plan) (functions_few c.args.objects.now c.requires.objects c.requires.few)

pub sizes_pass-requires-clause-stubs : goal.sizes_pass-requires-clause-stubs
sizes_pass-requires-clause-stubs c =
    subst (λ (p : Plan). length p.stubs < 2 ^ 53) (sym c.requires.plan) (stubs_few c.args.objects.now c.requires.objects c.requires.few)

pub fixes_pass-requires-clause-low : goal.fixes_pass-requires-clause-low
fixes_pass-requires-clause-low c =
    let os = c.args.objects.now in
    let s = sizes_of os c.args.planned.now.plan c.args.planned.now.ends c.requires.plan c.requires.ends c.in_ok-sizes_pass.ensures in
    subst IsLow (sym c.requires.plan) (plan_low os s)

pub image-requires-clause-low : goal.image-requires-clause-low
image-requires-clause-low c =
    let os = c.args.objects.now in
    let s = sizes_of os c.args.planned.now.plan c.args.planned.now.ends c.requires.plan c.requires.ends c.in_ok-sizes_pass.ensures in
    subst IsLow (sym c.requires.plan) (plan_low os s)

pub image-requires-clause-reach : goal.image-requires-clause-reach
image-requires-clause-reach c =
    let os = c.args.objects.now in
    let s = sizes_of os c.args.planned.now.plan c.args.planned.now.ends c.requires.plan c.requires.ends c.in_ok-sizes_pass.ensures in
    subst (GatesReach os) (sym c.requires.plan) (gates_reach os c.requires.objects s c.requires.main)
