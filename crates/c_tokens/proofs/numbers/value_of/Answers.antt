use Rattle.std.proofs.Common.{arith, ◌≡◌, ◌^◌, sym, ◌∙◌}
use Rattle.std.proofs.lemmas.List.{at_drop_all}
use Rattle.c_tokens.specs.Numbers as spec
use Rattle.c_tokens.proofs.Values.{value_after, value_passed}
use Rattle.c_tokens.proofs.numbers.value_of.Goals as goal

pub returns-in_err-shifted : goal.returns-in_err-shifted
returns-in_err-shifted c =
    rw c.from_residual.ensures (value_passed c.args.base c.loop-d.value (2 ^ 64) c.args.digits.now c.loop-d.d-index c.requires c.loop-d.invariant.rest c.loop-d-test.true (λ small. c.in_err-shifted.ensures (omega (arith, small))))

pub returns-in_err-value : goal.returns-in_err-value
returns-in_err-value c =
    rw c.from_residual-in_err-value.ensures (value_passed c.args.base c.loop-d.value (2 ^ 64) c.args.digits.now c.loop-d.d-index c.requires c.loop-d.invariant.rest c.loop-d-test.true (λ small. c.in_err-value.ensures (omega (arith, small, c.in_ok-shifted.ensures, c.digit_of.ensures.value))))

pub returns : goal.returns
returns c =
    let whole : spec.value_of c.args.base c.args.digits.now ≡ c.loop-d.value = c.loop-d.invariant.rest ∙ at_drop_all (value_after c.args.base c.loop-d.value) c.args.digits.now c.loop-d.d-index c.loop-d-test.false in
    (omega (arith, whole, c.loop-d.invariant.fits), sym whole)
