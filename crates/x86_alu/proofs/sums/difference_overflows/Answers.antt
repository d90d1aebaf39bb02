use Rattle.std.proofs.Common.{◌∙◌}
use Rattle.std.specs.Prelude.{not}
use Rattle.x86_alu.specs.Alu.{sign_is_wrong}
use Rattle.x86_alu.proofs.Signs.{rest_out}
use Rattle.x86_alu.proofs.sums.difference_overflows.Goals as goal

pub returns : goal.returns
returns c =
    c.is_wrong.ensures ∙ (λ i. sign_is_wrong (c.is_negative.ensures i) (not (c.is_negative-2.ensures i)) (c.is_negative-3.ensures i))
    ∙ rest_out c.args.w c.requires.width c.args.a c.args.b c.args.r c.requires.a_below c.requires.b_below c.requires.rest
