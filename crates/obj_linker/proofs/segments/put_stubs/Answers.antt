use Rattle.std.proofs.Common.{◌∙◌, subst}
use Rattle.call_gates.specs.Gates.{InLegacyCode}
use Rattle.obj_linker.specs.Symbols.{ids}
use Rattle.obj_linker.specs.Placement.{own_address}
use Rattle.obj_linker.specs.Fixing.{meant_by}
use Rattle.obj_linker.specs.Gating.{mpx_gates}
use Rattle.obj_linker.specs.Image.{stub_segment}
use Rattle.obj_linker.proofs.Members.{got}
use Rattle.obj_linker.proofs.Fitted.{got_more}
use Rattle.obj_linker.proofs.segments.put_stubs.Goals as goal

pub put_stub-requires-clause-target : goal.put_stub-requires-clause-target
put_stub-requires-clause-target c =
    let g = got (ids c.args.plan.now.stubs) c.all.number c.id.result c.id.ensures in
    subst (λ id. InLegacyCode (own_address c.args.objects.now c.args.plan.now (meant_by c.args.objects.now c.args.plan.now id))) (g.is c.id.result) (c.requires.reach.target c.all.number c.id.result g.less)

pub all-preserved : goal.all-preserved
all-preserved c =
    c.in_ok-put_stub.ensures
    ∙ got_more (stub_segment mpx_gates c.args.objects.now c.args.plan.now) (ids c.args.plan.now.stubs) c.all.number c.id.result c.args.out.now.items c.all.out.items c.id.ensures c.all.invariant
