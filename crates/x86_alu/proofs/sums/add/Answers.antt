use Rattle.std.proofs.Common.{◌≡◌, ◌∙◌, ◌+◌, ◌%◌, ◌^◌, nat_lt, nat_le}
use Rattle.x86_forms.specs.Arithmetic.{flags_after}
use Rattle.x86_alu.proofs.Widths.{low-word}
use Rattle.x86_alu.proofs.Signs.{sum_carries}
use Rattle.x86_alu.proofs.sums.add.Goals as goal

pub sum_overflows-requires-clause-sum : goal.sum_overflows-requires-clause-sum
sum_overflows-requires-clause-sum c = c.low-r.ensures.value ∙ low-word c.args.w (c.args.a + c.args.b) c.requires.width

pub returns-clause-flags : goal.returns-clause-flags
unfolding flags_after
returns-clause-flags c before =
    let value : c.low-r.result ≡ (c.args.a + c.args.b) % 2 ^ c.args.w = c.low-r.ensures.value ∙ low-word c.args.w (c.args.a + c.args.b) c.requires.width in
    let carry : nat_lt c.low-r.result c.args.a ≡ nat_le (2 ^ c.args.w) (c.args.a + c.args.b) = sum_carries c.args.w c.requires.width c.args.a c.args.b c.low-r.result c.requires.a_below c.requires.b_below value in
    c.flags.ensures ∙ cc (value, carry, c.sum_overflows.ensures)
