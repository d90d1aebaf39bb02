use Rattle.std.proofs.Common.{◌∙◌, ap, sym, refl}
use Rattle.std.specs.Prelude.{Err}
use Rattle.std.proofs.lemmas.Result.{err_from_is_err_and}
use Rattle.x86_alu.specs.Alu.{flags_in}
use Rattle.x86_core.specs.Steps.{seen}
use Rattle.x86_core.proofs.Stepping.{put_register, put_memory, put_refused}
use Rattle.x86_core.proofs.operations.put.Goals as goal

pub returns-in-Reg-clause-row : goal.returns-in-Reg-clause-row
returns-in-Reg-clause-row c s =
    put_register s c.args.cpu.now _ c.args.m.now c.args.next c.args.w c.args.v c.in-Reg.r c.args.rm _ c.in-Reg.is
    (ap (λ regs. record (seen s c.args.cpu.now) { regs = regs; rip = c.args.next; flags = flags_in c.args.flags }) (sym c.set_register.ensures))

pub returns-in_err-store-in-Mem-clause-row : goal.returns-in_err-store-in-Mem-clause-row
returns-in_err-store-in-Mem-clause-row c s =
    let p = err_from_is_err_and c.from_residual.result c.from_residual.ensures.1 in
    put_refused s c.args.cpu.now c.args.m.now c.store.new.m c.args.next c.args.w c.args.v c.in-Mem.mem c.args.rm _ c.address_of.result c.low.result c.in_err-store-in-Mem.field-0.0 _
    c.in-Mem.is c.address_of.ensures c.low.ensures.value c.in_err-store-in-Mem.ensures.answer c.in_err-store-in-Mem.ensures.refused (p.1 ∙ ap Err p.2)

pub returns-in_ok-store-in-Mem-clause-row : goal.returns-in_ok-store-in-Mem-clause-row
returns-in_ok-store-in-Mem-clause-row c s =
    put_memory s c.args.cpu.now _ c.args.m.now c.store.new.m c.args.next c.args.w c.args.v c.in-Mem.mem c.args.rm _ c.address_of.result c.low.result
    c.in-Mem.is c.address_of.ensures c.low.ensures.value c.in_ok-store-in-Mem.ensures.answer refl
