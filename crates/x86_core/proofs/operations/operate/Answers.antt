use Rattle.std.proofs.Common.{◌∙◌, ap}
use Rattle.std.specs.Prelude.{Err}
use Rattle.std.proofs.lemmas.Result.{err_from_is_err_and}
use Rattle.x86_core.proofs.Stepping.{value_found, value_refused}
use Rattle.x86_core.proofs.operations.operate.Goals as goal

pub returns-in_err-a-clause-row : goal.returns-in_err-a-clause-row
returns-in_err-a-clause-row c s =
    let p = err_from_is_err_and c.from_residual.result c.from_residual.ensures.1 in
    value_refused s c.args.cpu.now c.args.m.now c.args.next c.args.w c.args.rm _ c.in_err-a.field-0.0 _ c.in_err-a.ensures.value (p.1 ∙ ap Err p.2)

pub returns-clause-row : goal.returns-clause-row
returns-clause-row c s = value_found s c.args.cpu.now _ c.args.m.now _ c.args.next c.args.w c.args.rm _ c.in_ok-a.a _ c.in_ok-a.ensures.value (c.operated.ensures.row s)
