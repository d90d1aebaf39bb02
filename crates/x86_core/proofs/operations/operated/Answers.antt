use Rattle.std.proofs.Common.{◌≡◌, ◌∙◌, ap, sym}
use Rattle.x86_forms.specs.Arithmetic.{flags_after}
use Rattle.x86_alu.specs.Alu.{operation_of, flags_in}
use Rattle.x86_core.specs.Steps.{seen}
use Rattle.x86_core.proofs.Spreading.{low-small}
use Rattle.x86_core.proofs.Stepping.{operated_flags}
use Rattle.x86_core.proofs.operations.operated.Goals as goal

pub returns-else-has_result-clause-row : goal.returns-else-has_result-clause-row
returns-else-has_result-clause-row c s =
    let a = low-small c.args.w c.args.a c.requires.a_below in
    let b = low-small c.args.w c.args.b c.requires.b_below in
    let flags : flags_in c.arith-v.result.1 ≡ flags_after (operation_of c.args.op) c.args.w c.args.a c.args.b (flags_in c.args.cpu.now.flags) = c.arith-v.ensures.flags ∙ (λ i. flags_after (operation_of c.args.op) c.args.w (a i) (b i) (flags_in c.args.cpu.now.flags)) in
    operated_flags s c.args.cpu.now _ c.args.m.now c.args.next (operation_of c.args.op) c.args.w c.args.rm c.args.a c.args.b (sym c.has_result.ensures ∙ c.if-has_result.false)
    (ap (λ flags. record (seen s c.args.cpu.now) { rip = c.args.next; flags = flags }) (sym flags))
