use Rattle.std.proofs.Common.{ap, ◌∙◌, arith}
use Rattle.x86_forms.specs.EarlyEffects.{EarlyState}
use Rattle.x86_core.specs.EarlyMachine.{seen}
use Rattle.x86_core.proofs.EarlySteps.{with_rip, went, load_goes}
use Rattle.x86_core.proofs.early.machine.Machine.load.Goals as goal

pub returns-in-Some : goal.returns-in-Some
returns-in-Some c =
    let there = c.in-Some.ensures in
    let byte = c.byte-byte.type_inv in
    went _ _ _ _ (load_goes c.args.r c.args.m c.args.next (seen c.args.self.now) c.address_of-at.result c.in-Some.k c.from.result c.address_of-at.ensures there.0 there.1 (c.from.ensures ∙ c.byte-byte.ensures) (omega (arith, c.from.ensures)))
    c.go.ensures.value (c.go.ensures.state ∙ ap (λ (t : EarlyState). with_rip t c.args.next) c.set_reg.ensures)
