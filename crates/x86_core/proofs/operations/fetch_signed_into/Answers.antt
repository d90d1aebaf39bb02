use Rattle.std.proofs.Common.{◌∙◌, ap, sym}
use Rattle.std.specs.Prelude.{Ok, Err}
use Rattle.std.proofs.lemmas.Result.{err_from_is_err_and}
use Rattle.x86_core.specs.declared.cpu.Done.TheVariants.{Next}
use Rattle.x86_core.specs.declared.cpu.Cpu.{Cpu}
use Rattle.x86_core.specs.Steps.{seen}
use Rattle.x86_core.proofs.Stepping.{value_found, value_refused, ends}
use Rattle.x86_core.proofs.operations.fetch_signed_into.Goals as goal

pub returns-in_err-v-clause-row : goal.returns-in_err-v-clause-row
returns-in_err-v-clause-row c s =
    let p = err_from_is_err_and c.from_residual.result c.from_residual.ensures.1 in
    value_refused s c.args.cpu.now c.args.m.now c.args.next c.args.from c.args.rm _ c.in_err-v.field-0.0 _ c.in_err-v.ensures.value (p.1 ∙ ap Err p.2)

pub returns-clause-row : goal.returns-clause-row
returns-clause-row c s =
    let after : Cpu = record { rip = c.args.next; regs = c.set_register.new.regs; flags = c.args.cpu.now.flags } in
    let regs = rw c.spread.ensures at c.set_register.ensures in
    value_found s c.args.cpu.now after c.args.m.now c.args.m.now c.args.next c.args.from c.args.rm _ c.in_ok-v.v (Ok Next) c.in_ok-v.ensures.value
    (ends s c.args.cpu.now after c.args.m.now _ Next (ap (λ regs. record (seen s c.args.cpu.now) { regs = regs; rip = c.args.next }) (sym regs)))
