use Rattle.std.proofs.Common.{◌≤◌, length, ◌∙◌, arith}
use Rattle.disasm.proofs.Lengths.{short_as}
use Rattle.disasm.proofs.Lengths.{length_register}
use Rattle.disasm.proofs.text.push_register.Goals as goal

pub push-requires : goal.push-requires
push-requires c =
    let short : length c.as_bytes.result.now ≤ 4 = short_as _ _ 4 (c.as_bytes.ensures.value ∙ c.register_text.ensures) (length_register c.args.w c.args.r) in
    omega (arith, c.requires)

pub returns-clause-len : goal.returns-clause-len
returns-clause-len c =
    let short : length c.as_bytes.result.now ≤ 4 = short_as _ _ 4 (c.as_bytes.ensures.value ∙ c.register_text.ensures) (length_register c.args.w c.args.r) in
    omega (arith, c.push.ensures.len)
