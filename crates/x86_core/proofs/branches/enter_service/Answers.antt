use Rattle.std.proofs.Common.{◌∙◌, ap}
use Rattle.x86_forms.specs.Processor.{with_part}
use Rattle.x86_core.specs.Steps.{seen}
use Rattle.x86_core.proofs.branches.enter_service.Goals as goal

pub returns : goal.returns
returns c s =
    let regs = c.set_register-2.ensures ∙ ap (λ regs. with_part 64 regs 11 0) c.set_register.ensures in
    ap (λ regs. record (seen s c.args.cpu.now) { regs = regs; rip = c.args.next }) regs
