use Rattle.std.proofs.Common.{◌≡◌, ℕ, ◌-◌, ◌*◌, ◌^◌, ◌<◌, ◌-ℤ◌, refl, sym, ◌∙◌, ap, subst, arith, rules, to_z, of_z, pos, negsuc, FitsSigned}
use Rattle.std.specs.Int.{w128}
use Rattle.std.proofs.lemmas.Int.{ints, to_z-of_z}
use Rattle.x86_forms.specs.Arithmetic.{signed}
use Rattle.x86_alu.proofs.Widths.{cast_signed-128, signed_low, signed_high, is_32}
use Rattle.x86_alu.proofs.division.joined_signed.Goals as goal

pub returns-then-w-eq64 : goal.returns-then-w-eq64
returns-then-w-eq64 c =
    let fits : FitsSigned w128 c.cast_signed.result = search rules in
    let below : c.joined-n.result < 2 ^ 128 = omega arith in
    to_z-of_z w128 c.cast_signed.result fits ∙ c.cast_signed.ensures ∙ cast_signed-128 c.joined-n.result below ∙ ap (λ w. signed (2 * w) c.joined-n.result) (sym c.if-w-eq64.true) ∙ ap (signed (2 * c.args.w)) c.joined-n.ensures.value

pub returns-then-n-lt9223372036854775808 : goal.returns-then-n-lt9223372036854775808
returns-then-n-lt9223372036854775808 c =
    let width : c.args.w ≡ 32 = is_32 c.args.w c.requires.width c.if-w-eq64.false in
    let number : to_z w128 c.joined-n.result ≡ pos c.joined-n.result = omega (arith, ints) in
    number ∙ sym (signed_low 64 c.joined-n.result refl (omega arith)) ∙ ap (λ w. signed (2 * w) c.joined-n.result) (sym width) ∙ ap (signed (2 * c.args.w)) c.joined-n.ensures.value

pub returns-else-n-lt9223372036854775808 : goal.returns-else-n-lt9223372036854775808
returns-else-n-lt9223372036854775808 c =
    let width : c.args.w ≡ 32 = is_32 c.args.w c.requires.width c.if-w-eq64.false in
    let below : c.joined-n.result < 2 ^ 64 = let P : ℕ → Type 0 = λ w. c.joined-n.result < 2 ^ (2 * w) in subst P width c.joined-n.ensures.below in
    let number : to_z w128 (of_z w128 (to_z w128 c.joined-n.result -ℤ pos 18446744073709551616)) ≡ negsuc (2 ^ 64 - 1 - c.joined-n.result) = omega (arith, ints) in
    number ∙ sym (signed_high 64 c.joined-n.result refl (omega arith)) ∙ ap (λ w. signed (2 * w) c.joined-n.result) (sym width) ∙ ap (signed (2 * c.args.w)) c.joined-n.ensures.value
