use Rattle.std.proofs.Common.{◌^◌, ◌<◌, ◌∙◌, ap, sym, refl, arith}
use Rattle.std.specs.Prelude.{Err}
use Rattle.std.proofs.lemmas.Result.{err_from_is_err_and}
use Rattle.x86_core.specs.declared.cpu.Cpu.{Cpu}
use Rattle.x86_core.proofs.Spreading.{low-small}
use Rattle.x86_core.proofs.Stepping.{moved_stack, push_done, push_refused}
use Rattle.x86_core.proofs.branches.push.Goals as goal

pub returns-in_err-store-clause-row : goal.returns-in_err-store-clause-row
returns-in_err-store-clause-row c s =
    let p = err_from_is_err_and c.from_residual.result c.from_residual.ensures.1 in
    let fits : c.args.v < 2 ^ 64 = omega arith in
    push_refused s c.args.cpu.now c.args.m.now c.store.new.m c.args.v c.args.v _ _ c.in_err-store.field-0.0 _
    refl (sym (low-small 64 c.args.v fits)) c.in_err-store.ensures.answer c.in_err-store.ensures.refused (p.1 ∙ ap Err p.2)

pub returns-clause-row : goal.returns-clause-row
returns-clause-row c s =
    let after : Cpu = record { rip = c.args.to; regs = c.set_stack.new.regs; flags = c.args.cpu.now.flags } in
    let fits : c.args.v < 2 ^ 64 = omega arith in
    push_done s c.args.cpu.now after c.args.m.now c.store.new.m c.args.v c.args.v _ _ c.args.done
    refl (sym (low-small 64 c.args.v fits)) c.in_ok-store.ensures.answer
    (moved_stack s c.args.cpu.now c.args.done c.args.to c.args.to _ c.set_stack.new.regs refl c.set_stack.ensures)
