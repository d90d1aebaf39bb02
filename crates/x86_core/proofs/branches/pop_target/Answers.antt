use Rattle.std.proofs.Common.{◌^◌, ◌<◌, ◌∙◌, ap, rules}
use Rattle.std.specs.Prelude.{Ok, Err}
use Rattle.std.proofs.lemmas.Result.{err_from_is_err_and}
use Rattle.x86_forms.specs.Arithmetic.{low}
use Rattle.x86_core.specs.declared.cpu.Cpu.{Cpu}
use Rattle.x86_core.proofs.Spreading.{low-small}
use Rattle.x86_core.proofs.Stepping.{load_found, load_refused, ends, moved_stack}
use Rattle.x86_core.proofs.branches.pop_target.Goals as goal

pub returns-in_err-target-clause-row : goal.returns-in_err-target-clause-row
returns-in_err-target-clause-row c s =
    let p = err_from_is_err_and c.from_residual.result c.from_residual.ensures.1 in
    load_refused s c.args.cpu.now c.args.m.now _ 8 _ _ c.in_err-target.field-0.0 _ c.in_err-target.ensures (p.1 ∙ ap Err p.2)

pub returns-clause-row : goal.returns-clause-row
returns-clause-row c s =
    let after : Cpu = record { rip = c.in_ok-target.target; regs = c.set_stack.new.regs; flags = c.args.cpu.now.flags } in
    let fits : c.in_ok-target.target < 2 ^ 64 = search rules in
    let regs = c.set_stack.ensures in
    load_found s c.args.cpu.now after c.args.m.now c.args.m.now _ 8 _ _ c.in_ok-target.target (Ok c.args.done) c.in_ok-target.ensures
    (ends s c.args.cpu.now after c.args.m.now _ c.args.done (moved_stack s c.args.cpu.now c.args.done (low 64 c.in_ok-target.target) c.in_ok-target.target _ c.set_stack.new.regs (low-small 64 c.in_ok-target.target fits) regs))
