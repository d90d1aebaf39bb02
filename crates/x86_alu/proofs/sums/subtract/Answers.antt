use Rattle.std.proofs.Common.{◌≡◌, ◌∙◌}
use Rattle.x86_forms.specs.Arithmetic.{difference, difference_flags}
use Rattle.x86_alu.proofs.Widths.{low-difference}
use Rattle.x86_alu.proofs.sums.subtract.Goals as goal

pub difference_overflows-requires-clause-rest : goal.difference_overflows-requires-clause-rest
difference_overflows-requires-clause-rest c = c.low-r.ensures.value ∙ low-difference c.args.w c.args.a c.args.b c.requires.width c.requires.a_below c.requires.b_below

pub returns-clause-flags : goal.returns-clause-flags
unfolding difference_flags
returns-clause-flags c =
    let value : c.low-r.result ≡ difference c.args.w c.args.a c.args.b = c.low-r.ensures.value ∙ low-difference c.args.w c.args.a c.args.b c.requires.width c.requires.a_below c.requires.b_below in
    c.flags.ensures ∙ cc (value, c.difference_overflows.ensures)
