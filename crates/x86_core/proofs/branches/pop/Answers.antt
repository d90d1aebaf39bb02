use Rattle.std.proofs.Common.{◌∙◌, ap, sym}
use Rattle.std.specs.Prelude.{Ok, Err}
use Rattle.std.proofs.lemmas.Result.{err_from_is_err_and}
use Rattle.x86_forms.specs.Processor.{with_part}
use Rattle.x86_core.specs.declared.cpu.Cpu.{Cpu}
use Rattle.x86_core.specs.declared.cpu.Done.TheVariants.{Next}
use Rattle.x86_core.specs.Steps.{seen}
use Rattle.x86_core.proofs.Stepping.{load_found, load_refused, ends}
use Rattle.x86_core.proofs.branches.pop.Goals as goal

pub returns-in_err-v-clause-row : goal.returns-in_err-v-clause-row
returns-in_err-v-clause-row c s =
    let p = err_from_is_err_and c.from_residual.result c.from_residual.ensures.1 in
    load_refused s c.args.cpu.now c.args.m.now _ 8 _ _ c.in_err-v.field-0.0 _ c.in_err-v.ensures (p.1 ∙ ap Err p.2)

pub returns-clause-row : goal.returns-clause-row
returns-clause-row c s =
    let after : Cpu = record { rip = c.args.next; regs = c.set_register.new.regs; flags = c.args.cpu.now.flags } in
    let stack = c.set_stack.ensures in
    let regs = c.set_register.ensures ∙ ap (λ regs. with_part 64 regs c.args.r.0 c.in_ok-v.v) stack in
    load_found s c.args.cpu.now after c.args.m.now c.args.m.now _ 8 _ _ c.in_ok-v.v (Ok Next) c.in_ok-v.ensures
    (ends s c.args.cpu.now after c.args.m.now _ Next (ap (λ regs. record (seen s c.args.cpu.now) { regs = regs; rip = c.args.next }) (sym regs)))
