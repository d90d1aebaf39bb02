use Rattle.std.proofs.Common.{ap, ◌∙◌}
use Rattle.x86_forms.specs.EarlyEffects.{EarlyState}
use Rattle.x86_core.specs.EarlyMachine.{seen}
use Rattle.x86_core.proofs.EarlySteps.{with_rip, went, bounds_goes}
use Rattle.x86_core.proofs.early.machine.Machine.make_bounds.Goals as goal

pub returns : goal.returns
returns c =
    went _ _ _ _ (bounds_goes c.args.b c.args.m c.args.next (seen c.args.self.now) c.base_of-lb.result c.address_of-ub.result c.base_of-lb.ensures c.address_of-ub.ensures)
    c.go.ensures.value (c.go.ensures.state ∙ ap (λ (t : EarlyState). with_rip t c.args.next) c.set_bounds.ensures)
