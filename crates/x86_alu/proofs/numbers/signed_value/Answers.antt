use Rattle.std.proofs.Common.{◌≡◌, ◌<◌, ◌-◌, ◌^◌, ℕ, refl, subst, sym, ◌∙◌, arith, to_z, of_z, pos, negsuc, rules, ap, FitsSigned, ◌-ℤ◌}
use Rattle.std.specs.Int.{w64}
use Rattle.std.proofs.lemmas.Int.{ints, to_z-of_z}
use Rattle.x86_forms.specs.Arithmetic.{signed}
use Rattle.x86_alu.proofs.Widths.{cast_signed-64, signed_low, signed_high, is_32}
use Rattle.x86_alu.proofs.numbers.signed_value.Goals as goal

pub returns-then-w-eq64 : goal.returns-then-w-eq64
returns-then-w-eq64 c =
    let fits : FitsSigned w64 c.cast_signed.result = search rules in
    let below : c.args.a < 2 ^ 64 = omega arith in
    to_z-of_z w64 c.cast_signed.result fits ∙ c.cast_signed.ensures ∙ cast_signed-64 c.args.a below ∙ ap (λ w. signed w c.args.a) (sym c.if-w-eq64.true)

pub returns-then-a-lt2147483648 : goal.returns-then-a-lt2147483648
returns-then-a-lt2147483648 c =
    let width : c.args.w ≡ 32 = is_32 c.args.w c.requires.width c.if-w-eq64.false in
    let number : to_z w64 c.args.a ≡ pos c.args.a = omega (arith, ints) in
    number ∙ sym (signed_low 32 c.args.a refl (omega arith)) ∙ ap (λ w. signed w c.args.a) (sym width)

pub returns-else-a-lt2147483648 : goal.returns-else-a-lt2147483648
returns-else-a-lt2147483648 c =
    let width : c.args.w ≡ 32 = is_32 c.args.w c.requires.width c.if-w-eq64.false in
    let below : c.args.a < 2 ^ 32 = let P : ℕ → Type 0 = λ w. c.args.a < 2 ^ w in subst P width c.requires.below in
    let number : to_z w64 (of_z w64 (to_z w64 c.args.a -ℤ pos 4294967296)) ≡ negsuc (2 ^ 32 - 1 - c.args.a) = omega (arith, ints) in
    number ∙ sym (signed_high 32 c.args.a refl (omega arith)) ∙ ap (λ w. signed w c.args.a) (sym width)
