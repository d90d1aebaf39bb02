use Rattle.std.proofs.Common.{◌≡◌, ◌∙◌, arith}
use Rattle.x86_forms.specs.Requests.{run}
use Rattle.x86_forms.specs.Table.{value_then, one_operand}
use Rattle.paged_memory.specs.Framed.{framed_of}
use Rattle.x86_core.specs.Framed.{framed}
use Rattle.x86_core.specs.Steps.{seen}
use Rattle.x86_core.proofs.Rows.{signed_division}
use Rattle.x86_core.proofs.operations.apply.Goals as goal

pub returns-in-0-clause-row : goal.returns-in-0-clause-row
returns-in-0-clause-row c s = (λ k. run framed (seen s c.args.cpu.now) (value_then (seen s c.args.cpu.now) c.args.next c.args.w c.args.rm (one_operand (seen s c.args.cpu.now) c.args.next (c.in-0.is k) c.args.w c.args.rm)) (framed_of c.args.m.now)) ∙ c.operate.ensures.row s

pub returns-in-1-clause-row : goal.returns-in-1-clause-row
returns-in-1-clause-row c s = (λ k. run framed (seen s c.args.cpu.now) (value_then (seen s c.args.cpu.now) c.args.next c.args.w c.args.rm (one_operand (seen s c.args.cpu.now) c.args.next (c.in-1.is k) c.args.w c.args.rm)) (framed_of c.args.m.now)) ∙ c.operate-in-1.ensures.row s

pub returns-in-2-clause-row : goal.returns-in-2-clause-row
returns-in-2-clause-row c s = (λ k. run framed (seen s c.args.cpu.now) (value_then (seen s c.args.cpu.now) c.args.next c.args.w c.args.rm (one_operand (seen s c.args.cpu.now) c.args.next (c.in-2.is k) c.args.w c.args.rm)) (framed_of c.args.m.now)) ∙ c.divide_by_operand.ensures.row s

pub returns-in_default-clause-row : goal.returns-in_default-clause-row
returns-in_default-clause-row c s =
    let n0 : c.args.op ≡ 0 → ⊥ = λ e. omega arith in
    let n1 : c.args.op ≡ 1 → ⊥ = λ e. omega arith in
    let n2 : c.args.op ≡ 2 → ⊥ = λ e. omega arith in
    (λ k. run framed (seen s c.args.cpu.now) (value_then (seen s c.args.cpu.now) c.args.next c.args.w c.args.rm (λ a. signed_division (seen s c.args.cpu.now) c.args.next c.args.op c.args.w c.args.rm a n0 n1 n2 k)) (framed_of c.args.m.now)) ∙ c.divide_by_operand-in_default.ensures.row s
