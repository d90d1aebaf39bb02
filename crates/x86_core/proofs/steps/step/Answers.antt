use Rattle.std.proofs.Common.{◌+◌, ◌%◌, ◌^◌, refl, ap, ◌∙◌, FitsSigned, rules}
use Rattle.std.specs.Prelude.{Ok, Err, if◌then◌else◌}
use Rattle.std.specs.Int.{w32, w64}
use Rattle.std.proofs.lemmas.Int.{to_z-of_z}
use Rattle.x86_forms.specs.Processor.{branch_target}
use Rattle.x86_forms.specs.Table.{imm_value}
use Rattle.x86_core.specs.declared.cpu.CoreStop.TheVariants.{Undefined}
use Rattle.x86_core.specs.declared.cpu.Done.TheVariants.{Next, Service}
use Rattle.x86_core.specs.Steps.{seen}
use Rattle.x86_core.proofs.Stepping.{rowed, went, ends, fails}
use Rattle.x86_core.proofs.Rows as rows
use Rattle.x86_core.proofs.steps.step.Goals as goal

pub returns-in-MovTo-clause-row : goal.returns-in-MovTo-clause-row
returns-in-MovTo-clause-row c s =
    let next = ap (λ n. (c.args.cpu.now.rip + n) % 2 ^ 64) c.from.ensures in
    rowed s c.args.cpu.now c.put.new.cpu c.args.m.now c.put.new.m c.args.i.now _ _ _ _ c.put.result c.in-MovTo.is next (rows.row-MovTo (seen s c.args.cpu.now) _ c.in-MovTo.w c.low-v.result c.in-MovTo.r c.in-MovTo.rm c.low-v.ensures.value) (c.put.ensures.row s)

pub returns-in-MovFrom-clause-row : goal.returns-in-MovFrom-clause-row
returns-in-MovFrom-clause-row c s =
    let next = ap (λ n. (c.args.cpu.now.rip + n) % 2 ^ 64) c.from.ensures in
    rowed s c.args.cpu.now c.fetch_into.new.cpu c.args.m.now c.args.m.now c.args.i.now _ _ _ _ c.fetch_into.result c.in-MovFrom.is next (rows.row-MovFrom (seen s c.args.cpu.now) _ c.in-MovFrom.w c.in-MovFrom.r c.in-MovFrom.at) (c.fetch_into.ensures.row s)

pub returns-in-MovMemImm-clause-row : goal.returns-in-MovMemImm-clause-row
returns-in-MovMemImm-clause-row c s =
    let fits : FitsSigned w64 c.in-MovMemImm.imm = search rules in
    let imm = to_z-of_z w64 c.in-MovMemImm.imm fits in
    let next = ap (λ n. (c.args.cpu.now.rip + n) % 2 ^ 64) c.from.ensures in
    rowed s c.args.cpu.now c.put-in-MovMemImm.new.cpu c.args.m.now c.put-in-MovMemImm.new.m c.args.i.now _ _ _ _ c.put-in-MovMemImm.result c.in-MovMemImm.is next (rows.row-MovMemImm (seen s c.args.cpu.now) _ c.in-MovMemImm.w c.imm_value.result c.in-MovMemImm.at c.in-MovMemImm.imm (c.imm_value.ensures.value ∙ ap (imm_value c.in-MovMemImm.w) imm)) (c.put-in-MovMemImm.ensures.row s)

pub returns-in-MovImm-clause-row : goal.returns-in-MovImm-clause-row
returns-in-MovImm-clause-row c s =
    let fits : FitsSigned w64 c.in-MovImm.imm = search rules in
    let imm = to_z-of_z w64 c.in-MovImm.imm fits in
    let next = ap (λ n. (c.args.cpu.now.rip + n) % 2 ^ 64) c.from.ensures in
    rowed s c.args.cpu.now c.put-in-MovImm.new.cpu c.args.m.now c.put-in-MovImm.new.m c.args.i.now _ _ _ _ c.put-in-MovImm.result c.in-MovImm.is next (rows.row-MovImm (seen s c.args.cpu.now) _ c.in-MovImm.w c.imm_value-in-MovImm.result c.in-MovImm.r c.in-MovImm.imm (c.imm_value-in-MovImm.ensures.value ∙ ap (imm_value c.in-MovImm.w) imm)) (c.put-in-MovImm.ensures.row s)

pub returns-in-Movsxd-clause-row : goal.returns-in-Movsxd-clause-row
returns-in-Movsxd-clause-row c s =
    let next = ap (λ n. (c.args.cpu.now.rip + n) % 2 ^ 64) c.from.ensures in
    rowed s c.args.cpu.now c.fetch_signed_into.new.cpu c.args.m.now c.args.m.now c.args.i.now _ _ _ _ c.fetch_signed_into.result c.in-Movsxd.is next (rows.row-Movsxd (seen s c.args.cpu.now) _ c.in-Movsxd.r c.in-Movsxd.rm) (c.fetch_signed_into.ensures.row s)

pub returns-in-Movzx-clause-row : goal.returns-in-Movzx-clause-row
returns-in-Movzx-clause-row c s =
    let next = ap (λ n. (c.args.cpu.now.rip + n) % 2 ^ 64) c.from.ensures in
    rowed s c.args.cpu.now c.fetch_into-in-Movzx.new.cpu c.args.m.now c.args.m.now c.args.i.now _ _ _ _ c.fetch_into-in-Movzx.result c.in-Movzx.is next (rows.row-Movzx (seen s c.args.cpu.now) _ c.in-Movzx.from c.in-Movzx.r c.in-Movzx.rm) (c.fetch_into-in-Movzx.ensures.row s)

pub returns-in-Movsx-clause-row : goal.returns-in-Movsx-clause-row
returns-in-Movsx-clause-row c s =
    let next = ap (λ n. (c.args.cpu.now.rip + n) % 2 ^ 64) c.from.ensures in
    rowed s c.args.cpu.now c.fetch_signed_into-in-Movsx.new.cpu c.args.m.now c.args.m.now c.args.i.now _ _ _ _ c.fetch_signed_into-in-Movsx.result c.in-Movsx.is next (rows.row-Movsx (seen s c.args.cpu.now) _ c.in-Movsx.w c.in-Movsx.from c.in-Movsx.r c.in-Movsx.rm) (c.fetch_signed_into-in-Movsx.ensures.row s)

pub returns-in-Lea-clause-row : goal.returns-in-Lea-clause-row
returns-in-Lea-clause-row c s =
    let next = ap (λ n. (c.args.cpu.now.rip + n) % 2 ^ 64) c.from.ensures in
    rowed s c.args.cpu.now c.put-in-Lea.new.cpu c.args.m.now c.put-in-Lea.new.m c.args.i.now _ _ _ _ c.put-in-Lea.result c.in-Lea.is next (rows.row-Lea (seen s c.args.cpu.now) _ c.address_of-v.result c.in-Lea.r c.in-Lea.at c.address_of-v.ensures) (c.put-in-Lea.ensures.row s)

pub returns-in-AluTo-clause-row : goal.returns-in-AluTo-clause-row
returns-in-AluTo-clause-row c s =
    let next = ap (λ n. (c.args.cpu.now.rip + n) % 2 ^ 64) c.from.ensures in
    rowed s c.args.cpu.now c.operate.new.cpu c.args.m.now c.operate.new.m c.args.i.now _ _ _ _ c.operate.result c.in-AluTo.is next (rows.row-AluTo (seen s c.args.cpu.now) _ c.in-AluTo.op c.in-AluTo.w c.low-b.result _ c.in-AluTo.r c.in-AluTo.rm c.alu_op.ensures c.low-b.ensures.value) (c.operate.ensures.row s)

pub returns-in-AluFrom-clause-row : goal.returns-in-AluFrom-clause-row
returns-in-AluFrom-clause-row c s =
    let next = ap (λ n. (c.args.cpu.now.rip + n) % 2 ^ 64) c.from.ensures in
    rowed s c.args.cpu.now c.operate_onto.new.cpu c.args.m.now c.operate_onto.new.m c.args.i.now _ _ _ _ c.operate_onto.result c.in-AluFrom.is next (rows.row-AluFrom (seen s c.args.cpu.now) _ c.in-AluFrom.op c.in-AluFrom.w _ c.in-AluFrom.r c.in-AluFrom.at c.alu_op-in-AluFrom.ensures) (c.operate_onto.ensures.row s)

pub returns-in-AluImm-clause-row : goal.returns-in-AluImm-clause-row
returns-in-AluImm-clause-row c s =
    let fits : FitsSigned w64 c.in-AluImm.imm = search rules in
    let imm = to_z-of_z w64 c.in-AluImm.imm fits in
    let next = ap (λ n. (c.args.cpu.now.rip + n) % 2 ^ 64) c.from.ensures in
    rowed s c.args.cpu.now c.operate-in-AluImm.new.cpu c.args.m.now c.operate-in-AluImm.new.m c.args.i.now _ _ _ _ c.operate-in-AluImm.result c.in-AluImm.is next (rows.row-AluImm (seen s c.args.cpu.now) _ c.in-AluImm.op c.in-AluImm.w c.imm_value-in-AluImm.result _ c.in-AluImm.rm c.in-AluImm.imm c.alu_op-in-AluImm.ensures (c.imm_value-in-AluImm.ensures.value ∙ ap (imm_value c.in-AluImm.w) imm)) (c.operate-in-AluImm.ensures.row s)

pub returns-in-Test-clause-row : goal.returns-in-Test-clause-row
returns-in-Test-clause-row c s =
    let next = ap (λ n. (c.args.cpu.now.rip + n) % 2 ^ 64) c.from.ensures in
    rowed s c.args.cpu.now c.operate-in-Test.new.cpu c.args.m.now c.operate-in-Test.new.m c.args.i.now _ _ _ _ c.operate-in-Test.result c.in-Test.is next (rows.row-Test (seen s c.args.cpu.now) _ c.in-Test.w c.low-b-in-Test.result c.in-Test.r c.in-Test.rm c.low-b-in-Test.ensures.value) (c.operate-in-Test.ensures.row s)

pub returns-in-Imul-clause-row : goal.returns-in-Imul-clause-row
returns-in-Imul-clause-row c s =
    let next = ap (λ n. (c.args.cpu.now.rip + n) % 2 ^ 64) c.from.ensures in
    rowed s c.args.cpu.now c.operate_onto_apart.new.cpu c.args.m.now c.operate_onto_apart.new.m c.args.i.now _ _ _ _ c.operate_onto_apart.result c.in-Imul.is next (rows.row-Imul (seen s c.args.cpu.now) _ c.in-Imul.w c.in-Imul.r c.in-Imul.rm) (c.operate_onto_apart.ensures.row s)

pub returns-in-One-clause-row : goal.returns-in-One-clause-row
returns-in-One-clause-row c s =
    let next = ap (λ n. (c.args.cpu.now.rip + n) % 2 ^ 64) c.from.ensures in
    rowed s c.args.cpu.now c.apply.new.cpu c.args.m.now c.apply.new.m c.args.i.now _ _ _ _ c.apply.result c.in-One.is next (rows.row-One (seen s c.args.cpu.now) _ c.in-One.op c.in-One.w c.in-One.rm) (c.apply.ensures.row s)

pub returns-in-Ud2-clause-row : goal.returns-in-Ud2-clause-row
returns-in-Ud2-clause-row c s =
    let next = ap (λ n. (c.args.cpu.now.rip + n) % 2 ^ 64) c.from.ensures in
    rowed s c.args.cpu.now c.args.cpu.now c.args.m.now c.args.m.now c.args.i.now _ _ _ _ (Err Undefined) c.in-Ud2.is next (rows.row-Ud2 (seen s c.args.cpu.now) _) (fails s c.args.cpu.now c.args.m.now)

pub returns-in-ShiftCl-clause-row : goal.returns-in-ShiftCl-clause-row
returns-in-ShiftCl-clause-row c s =
    let next = ap (λ n. (c.args.cpu.now.rip + n) % 2 ^ 64) c.from.ensures in
    rowed s c.args.cpu.now c.operate_apart.new.cpu c.args.m.now c.operate_apart.new.m c.args.i.now _ _ _ _ c.operate_apart.result c.in-ShiftCl.is next (rows.row-ShiftCl (seen s c.args.cpu.now) _ c.in-ShiftCl.op c.in-ShiftCl.w c.low-count.result _ c.in-ShiftCl.rm c.shift_op.ensures c.low-count.ensures.value) (c.operate_apart.ensures.row s)

pub returns-in-ShiftImm-clause-row : goal.returns-in-ShiftImm-clause-row
returns-in-ShiftImm-clause-row c s =
    let fits : FitsSigned w64 c.in-ShiftImm.imm = search rules in
    let imm = to_z-of_z w64 c.in-ShiftImm.imm fits in
    let next = ap (λ n. (c.args.cpu.now.rip + n) % 2 ^ 64) c.from.ensures in
    rowed s c.args.cpu.now c.operate_apart-in-ShiftImm.new.cpu c.args.m.now c.operate_apart-in-ShiftImm.new.m c.args.i.now _ _ _ _ c.operate_apart-in-ShiftImm.result c.in-ShiftImm.is next (rows.row-ShiftImm (seen s c.args.cpu.now) _ c.in-ShiftImm.op c.in-ShiftImm.w c.imm_value-in-ShiftImm.result _ c.in-ShiftImm.rm c.in-ShiftImm.imm c.shift_op-in-ShiftImm.ensures (c.imm_value-in-ShiftImm.ensures.value ∙ ap (imm_value 8) imm)) (c.operate_apart-in-ShiftImm.ensures.row s)

pub returns-in-Set-clause-row : goal.returns-in-Set-clause-row
returns-in-Set-clause-row c s =
    let next = ap (λ n. (c.args.cpu.now.rip + n) % 2 ^ 64) c.from.ensures in
    rowed s c.args.cpu.now c.put-in-Set.new.cpu c.args.m.now c.put-in-Set.new.m c.args.i.now _ _ _ _ c.put-in-Set.result c.in-Set.is next (rows.row-Set (seen s c.args.cpu.now) _ c.in-Set.op c.from-v.result c.in-Set.rm (c.from-v.ensures ∙ rows.bit-chosen c.holds.result ∙ ap (λ b. if b then 1 else 0) c.holds.ensures)) (c.put-in-Set.ensures.row s)

pub returns-in-Push-clause-row : goal.returns-in-Push-clause-row
returns-in-Push-clause-row c s =
    let next = ap (λ n. (c.args.cpu.now.rip + n) % 2 ^ 64) c.from.ensures in
    rowed s c.args.cpu.now c.push.new.cpu c.args.m.now c.push.new.m c.args.i.now _ _ _ _ c.push.result c.in-Push.is next (rows.row-Push (seen s c.args.cpu.now) _ c.in-Push.r) (c.push.ensures.row s)

pub returns-in-Pop-clause-row : goal.returns-in-Pop-clause-row
returns-in-Pop-clause-row c s =
    let next = ap (λ n. (c.args.cpu.now.rip + n) % 2 ^ 64) c.from.ensures in
    rowed s c.args.cpu.now c.pop.new.cpu c.args.m.now c.args.m.now c.args.i.now _ _ _ _ c.pop.result c.in-Pop.is next (rows.row-Pop (seen s c.args.cpu.now) _ c.in-Pop.r) (c.pop.ensures.row s)

pub returns-in-CallRel-clause-row : goal.returns-in-CallRel-clause-row
returns-in-CallRel-clause-row c s =
    let fits : FitsSigned w32 c.in-CallRel.rel = search rules in
    let rel = to_z-of_z w32 c.in-CallRel.rel fits in
    let next = ap (λ n. (c.args.cpu.now.rip + n) % 2 ^ 64) c.from.ensures in
    rowed s c.args.cpu.now c.push-in-CallRel.new.cpu c.args.m.now c.push-in-CallRel.new.m c.args.i.now _ _ _ _ c.push-in-CallRel.result c.in-CallRel.is next (rows.row-CallRel (seen s c.args.cpu.now) _ c.target_of.result c.in-CallRel.prefixed c.in-CallRel.rel c.called.result c.called.ensures (c.target_of.ensures ∙ ap (branch_target _) rel)) (c.push-in-CallRel.ensures.row s)

pub returns-in-CallRm-clause-row : goal.returns-in-CallRm-clause-row
returns-in-CallRm-clause-row c s =
    let next = ap (λ n. (c.args.cpu.now.rip + n) % 2 ^ 64) c.from.ensures in
    rowed s c.args.cpu.now c.call_operand.new.cpu c.args.m.now c.call_operand.new.m c.args.i.now _ _ _ _ c.call_operand.result c.in-CallRm.is next (rows.row-CallRm (seen s c.args.cpu.now) _ c.in-CallRm.prefixed c.in-CallRm.rm c.called-in-CallRm.result c.called-in-CallRm.ensures) (c.call_operand.ensures.row s)

pub returns-in-JmpRm-clause-row : goal.returns-in-JmpRm-clause-row
returns-in-JmpRm-clause-row c s =
    let next = ap (λ n. (c.args.cpu.now.rip + n) % 2 ^ 64) c.from.ensures in
    rowed s c.args.cpu.now c.jump_operand.new.cpu c.args.m.now c.args.m.now c.args.i.now _ _ _ _ c.jump_operand.result c.in-JmpRm.is next (rows.row-JmpRm (seen s c.args.cpu.now) _ c.in-JmpRm.prefixed c.in-JmpRm.rm c.jumped-in-JmpRm.result c.jumped-in-JmpRm.ensures) (c.jump_operand.ensures.row s)

pub returns-in-Ret-clause-row : goal.returns-in-Ret-clause-row
returns-in-Ret-clause-row c s =
    let next = ap (λ n. (c.args.cpu.now.rip + n) % 2 ^ 64) c.from.ensures in
    rowed s c.args.cpu.now c.pop_target.new.cpu c.args.m.now c.args.m.now c.args.i.now _ _ _ _ c.pop_target.result c.in-Ret.is next (rows.row-Ret (seen s c.args.cpu.now) _ c.in-Ret.prefixed c.returned.result c.returned.ensures) (c.pop_target.ensures.row s)

pub returns-in-JmpRel-clause-row : goal.returns-in-JmpRel-clause-row
returns-in-JmpRel-clause-row c s =
    let fits : FitsSigned w32 c.in-JmpRel.rel = search rules in
    let rel = to_z-of_z w32 c.in-JmpRel.rel fits in
    let next = ap (λ n. (c.args.cpu.now.rip + n) % 2 ^ 64) c.from.ensures in
    rowed s c.args.cpu.now c.go_to.new.cpu c.args.m.now c.args.m.now c.args.i.now _ _ _ _ c.go_to.result c.in-JmpRel.is next (rows.row-JmpRel (seen s c.args.cpu.now) _ c.target_of-in-JmpRel.result c.in-JmpRel.prefixed c.in-JmpRel.rel c.jumped.result c.jumped.ensures (c.target_of-in-JmpRel.ensures ∙ ap (branch_target _) rel))
    (went s c.args.cpu.now c.go_to.new.cpu c.args.m.now c.jumped.result c.target_of-in-JmpRel.result c.go_to.result c.go_to.ensures.cpu c.go_to.ensures.done)

pub returns-in-Jcc-clause-row : goal.returns-in-Jcc-clause-row
returns-in-Jcc-clause-row c s =
    let fits : FitsSigned w32 c.in-Jcc.rel = search rules in
    let rel = to_z-of_z w32 c.in-Jcc.rel fits in
    let next = ap (λ n. (c.args.cpu.now.rip + n) % 2 ^ 64) c.from.ensures in
    rowed s c.args.cpu.now c.go_to-in-Jcc.new.cpu c.args.m.now c.args.m.now c.args.i.now _ _ _ _ c.go_to-in-Jcc.result c.in-Jcc.is next (rows.row-Jcc (seen s c.args.cpu.now) _ c.in-Jcc.op c.chosen-to.result c.target_of-in-Jcc.result c.in-Jcc.prefixed c.holds-taken.result c.in-Jcc.rel c.jumped-in-Jcc.result c.jumped-in-Jcc.ensures c.holds-taken.ensures (c.target_of-in-Jcc.ensures ∙ ap (branch_target _) rel) c.chosen-to.ensures)
    (went s c.args.cpu.now c.go_to-in-Jcc.new.cpu c.args.m.now c.jumped-in-Jcc.result c.chosen-to.result c.go_to-in-Jcc.result c.go_to-in-Jcc.ensures.cpu c.go_to-in-Jcc.ensures.done)

pub returns-in-Nop-clause-row : goal.returns-in-Nop-clause-row
returns-in-Nop-clause-row c s =
    let next = ap (λ n. (c.args.cpu.now.rip + n) % 2 ^ 64) c.from.ensures in
    rowed s c.args.cpu.now c.go_to-in-Nop.new.cpu c.args.m.now c.args.m.now c.args.i.now _ _ _ _ c.go_to-in-Nop.result c.in-Nop.is next (rows.row-Nop (seen s c.args.cpu.now) _)
    (went s c.args.cpu.now c.go_to-in-Nop.new.cpu c.args.m.now Next _ c.go_to-in-Nop.result c.go_to-in-Nop.ensures.cpu c.go_to-in-Nop.ensures.done)

pub returns-in-Wide-clause-row : goal.returns-in-Wide-clause-row
returns-in-Wide-clause-row c s =
    let next = ap (λ n. (c.args.cpu.now.rip + n) % 2 ^ 64) c.from.ensures in
    rowed s c.args.cpu.now c.widen.new.cpu c.args.m.now c.args.m.now c.args.i.now _ _ _ _ (Ok Next) c.in-Wide.is next (rows.row-Wide (seen s c.args.cpu.now) _ c.in-Wide.w (seen s c.widen.new.cpu) (c.widen.ensures s))
    (ends s c.args.cpu.now c.widen.new.cpu c.args.m.now (seen s c.widen.new.cpu) Next refl)

pub returns-in-Syscall-clause-row : goal.returns-in-Syscall-clause-row
returns-in-Syscall-clause-row c s =
    let next = ap (λ n. (c.args.cpu.now.rip + n) % 2 ^ 64) c.from.ensures in
    rowed s c.args.cpu.now c.enter_service.new.cpu c.args.m.now c.args.m.now c.args.i.now _ _ _ _ (Ok Service) c.in-Syscall.is next (rows.row-Syscall (seen s c.args.cpu.now) _ (seen s c.enter_service.new.cpu) (c.enter_service.ensures s))
    (ends s c.args.cpu.now c.enter_service.new.cpu c.args.m.now (seen s c.enter_service.new.cpu) Service refl)
