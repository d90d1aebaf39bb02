use Rattle.std.proofs.Common.{◌≡◌, ap}
use Rattle.x86_forms.specs.Arithmetic.{Add, Imul}
use Rattle.x86_alu.specs.Alu.{flags_in, operation_of}
use Rattle.x86_alu.proofs.operations.arith.Goals as goal

pub returns-in-Add-clause-flags : goal.returns-in-Add-clause-flags
returns-in-Add-clause-flags c =
    let at = c.add.ensures.flags (flags_in c.args.f) in
    let is : operation_of c.args.op ≡ Add = ap operation_of c.in-Add.is in
    cc (at, is, c.low-a.ensures.value, c.low-b.ensures.value)

pub returns-in-Imul-clause-flags : goal.returns-in-Imul-clause-flags
returns-in-Imul-clause-flags c =
    let at = c.multiply.ensures.flags (flags_in c.args.f) in
    let is : operation_of c.args.op ≡ Imul = ap operation_of c.in-Imul.is in
    cc (at, is, c.low-a.ensures.value, c.low-b.ensures.value)
