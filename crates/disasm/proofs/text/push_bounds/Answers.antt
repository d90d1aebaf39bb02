use Rattle.std.proofs.Common.{◌≤◌, length, ◌∙◌, arith}
use Rattle.disasm.proofs.Lengths.{short_as}
use Rattle.disasm.proofs.Lengths.{length_bounds}
use Rattle.disasm.proofs.text.push_bounds.Goals as goal

pub push-requires : goal.push-requires
push-requires c =
    let short : length c.as_bytes.result.now ≤ 4 = short_as _ _ 4 (c.as_bytes.ensures.value ∙ c.bounds_text.ensures) (length_bounds c.args.b) in
    omega (arith, c.requires)

pub returns-clause-len : goal.returns-clause-len
returns-clause-len c =
    let short : length c.as_bytes.result.now ≤ 4 = short_as _ _ 4 (c.as_bytes.ensures.value ∙ c.bounds_text.ensures) (length_bounds c.args.b) in
    omega (arith, c.push.ensures.len)
