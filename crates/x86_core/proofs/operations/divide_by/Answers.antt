use Rattle.std.proofs.Common.{◌∙◌, ap, sym}
use Rattle.x86_forms.specs.Arithmetic.{no_flags}
use Rattle.x86_forms.specs.Processor.{rdx, with_part}
use Rattle.x86_core.specs.Steps.{seen}
use Rattle.x86_core.proofs.Spreading.{low-small}
use Rattle.x86_core.proofs.Stepping.{divided_none, divided_some}
use Rattle.x86_core.proofs.operations.divide_by.Goals as goal

pub returns-in-None-clause-row : goal.returns-in-None-clause-row
returns-in-None-clause-row c s m = divided_none s c.args.cpu.now m c.args.next c.args.w _ (rw (low-small c.args.w c.args.a c.requires.below) at c.in-None.ensures)

pub returns-in-Some-clause-row : goal.returns-in-Some-clause-row
returns-in-Some-clause-row c s m =
    let regs = c.set_register-in-Some.ensures ∙ ap (λ regs. with_part c.args.w regs rdx c.in-Some.rest) c.set_register.ensures in
    divided_some s c.args.cpu.now _ m c.args.next c.args.w _ c.in-Some.quotient c.in-Some.rest (rw (low-small c.args.w c.args.a c.requires.below) at c.in-Some.ensures)
    (ap (λ regs. record (seen s c.args.cpu.now) { regs = regs; rip = c.args.next; flags = no_flags }) (sym regs))
