use Rattle.std.proofs.Common.{◌≤◌, length, ◌∙◌, arith}
use Rattle.disasm.proofs.Lengths.{short_as}
use Rattle.disasm.proofs.Lengths.{length_mnemonic}
use Rattle.disasm.proofs.text.push_mnemonic.Goals as goal

pub push-requires : goal.push-requires
push-requires c =
    let short : length c.as_bytes.result.now ≤ 7 = short_as _ _ 7 (c.as_bytes.ensures.value ∙ c.mnemonic_text.ensures) (length_mnemonic c.args.m) in
    omega (arith, c.requires)

pub returns-clause-len : goal.returns-clause-len
returns-clause-len c =
    let short : length c.as_bytes.result.now ≤ 7 = short_as _ _ 7 (c.as_bytes.ensures.value ∙ c.mnemonic_text.ensures) (length_mnemonic c.args.m) in
    omega (arith, c.push.ensures.len)
