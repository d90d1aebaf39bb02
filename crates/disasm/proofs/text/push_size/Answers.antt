use Rattle.std.proofs.Common.{◌≤◌, length, ◌∙◌, arith}
use Rattle.disasm.proofs.Lengths.{short_as}
use Rattle.disasm.proofs.Lengths.{length_size}
use Rattle.disasm.proofs.text.push_size.Goals as goal

pub push-requires : goal.push-requires
push-requires c =
    let short : length c.as_bytes.result.now ≤ 5 = short_as _ _ 5 (c.as_bytes.ensures.value ∙ c.size_text.ensures) (length_size c.args.w) in
    omega (arith, c.requires)

pub returns-clause-len : goal.returns-clause-len
returns-clause-len c =
    let short : length c.as_bytes.result.now ≤ 5 = short_as _ _ 5 (c.as_bytes.ensures.value ∙ c.size_text.ensures) (length_size c.args.w) in
    omega (arith, c.push.ensures.len)
