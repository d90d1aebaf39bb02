use Rattle.std.proofs.Common.{◌≡◌, ℤ, refl, sym, ◌∙◌, ap, subst, rules, FitsSigned}
use Rattle.std.specs.Prelude.{int_div, int_rem, true, false}
use Rattle.std.specs.Int.{w64, w128, IsNonZero}
use Rattle.std.proofs.lemmas.Int.{to_z-of_z, rem_is}
use Rattle.x86_forms.specs.Arithmetic.{bits_of, signed, holds_signed}
use Rattle.x86_alu.proofs.Dividing.{quotient_found, quotient_missing, quotient_refused}
use Rattle.x86_alu.proofs.division.divide_signed.Goals as goal

pub returns-then-fits : goal.returns-then-fits
returns-then-fits c =
    let number : FitsSigned w128 c.joined_signed-n.result = search rules in
    let divisor : FitsSigned w128 c.from-d.result = search rules in
    let quotient : FitsSigned w128 c.in_ok-quotient.quotient = search rules in
    let word : FitsSigned w64 c.signed_value.result = search rules in
    let n = to_z-of_z w128 c.joined_signed-n.result number in
    let d = to_z-of_z w128 c.from-d.result divisor in
    let by : c.from-d.result ≡ signed c.args.w c.args.by = c.from-d.ensures ∙ to_z-of_z w64 c.signed_value.result word ∙ c.signed_value.ensures in
    let P : ℤ → Type 0 = λ z. IsNonZero w128 z in
    let q : c.in_ok-quotient.quotient ≡ int_div c.joined_signed-n.result c.from-d.result = cc (c.in_ok-quotient.ensures.1, n, d) in
    let held : holds_signed c.args.w c.in_ok-quotient.quotient ≡ true = ap (holds_signed c.args.w) (sym (to_z-of_z w128 c.in_ok-quotient.quotient quotient)) ∙ sym c.fits.ensures ∙ c.if-fits.true in
    quotient_found c.args.w c.args.hi c.args.lo c.args.by c.joined_signed-n.result c.from-d.result c.in_ok-quotient.quotient (int_rem c.joined_signed-n.result c.from-d.result) c.word_of.result c.word_of-then-fits.result
    c.requires.width c.joined_signed-n.ensures by (subst P d c.in_ok-quotient.ensures.0.0) q refl held
    (c.word_of.ensures.value ∙ ap (bits_of c.args.w) (to_z-of_z w128 c.in_ok-quotient.quotient quotient))
    (c.word_of-then-fits.ensures.value ∙ ap (bits_of c.args.w) (rem_is w128 c.joined_signed-n.result c.from-d.result number divisor))

pub returns-else-fits : goal.returns-else-fits
returns-else-fits c =
    let number : FitsSigned w128 c.joined_signed-n.result = search rules in
    let divisor : FitsSigned w128 c.from-d.result = search rules in
    let quotient : FitsSigned w128 c.in_ok-quotient.quotient = search rules in
    let word : FitsSigned w64 c.signed_value.result = search rules in
    let n = to_z-of_z w128 c.joined_signed-n.result number in
    let d = to_z-of_z w128 c.from-d.result divisor in
    let by : c.from-d.result ≡ signed c.args.w c.args.by = c.from-d.ensures ∙ to_z-of_z w64 c.signed_value.result word ∙ c.signed_value.ensures in
    let q : c.in_ok-quotient.quotient ≡ int_div c.joined_signed-n.result c.from-d.result = cc (c.in_ok-quotient.ensures.1, n, d) in
    let held : holds_signed c.args.w c.in_ok-quotient.quotient ≡ false = ap (holds_signed c.args.w) (sym (to_z-of_z w128 c.in_ok-quotient.quotient quotient)) ∙ sym c.fits.ensures ∙ c.if-fits.false in
    quotient_missing c.args.w c.args.hi c.args.lo c.args.by c.joined_signed-n.result c.from-d.result c.in_ok-quotient.quotient c.joined_signed-n.ensures by q held

pub returns-in_err-quotient : goal.returns-in_err-quotient
returns-in_err-quotient c =
    let number : FitsSigned w128 c.joined_signed-n.result = search rules in
    let divisor : FitsSigned w128 c.from-d.result = search rules in
    let word : FitsSigned w64 c.signed_value.result = search rules in
    let n = to_z-of_z w128 c.joined_signed-n.result number in
    let d = to_z-of_z w128 c.from-d.result divisor in
    let by : c.from-d.result ≡ signed c.args.w c.args.by = c.from-d.ensures ∙ to_z-of_z w64 c.signed_value.result word ∙ c.signed_value.ensures in
    c.from_residual.ensures ∙ quotient_refused c.args.w c.args.hi c.args.lo c.args.by c.joined_signed-n.result c.from-d.result c.requires.width c.requires.by_below c.joined_signed-n.ensures by
    (λ can. c.in_err-quotient.ensures (rw (n, d) can))
