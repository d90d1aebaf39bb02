use Rattle.std.proofs.Common.{ap, sym, ◌∙◌, ◌%◌}
use Rattle.x86_forms.specs.EarlyEffects.{EarlyState, Sends}
use Rattle.x86_core.specs.EarlyMachine.{seen}
use Rattle.x86_core.proofs.EarlySteps.{with_rip, set_number, put_sends}
use Rattle.x86_core.proofs.early.machine.Machine.serve.Goals as goal

pub returns-in-4099 : goal.returns-in-4099
returns-in-4099 c =
    let s = seen c.args.self.now in
    let after = c.set_reg-in-4099-2.ensures ∙ ap (λ (t : EarlyState). set_number t 0 0) (c.set_reg-in-4099.ensures ∙ ap (λ (t : EarlyState). set_number t 11 0) c.set_reg.ensures) in
    put_sends c.args.next s c.in-4099.is c.ranges.next.fits ∙ ap (λ (t : EarlyState). Sends (s.processor.regs 7 % 0x100) (with_rip t c.args.next)) (sym after)
