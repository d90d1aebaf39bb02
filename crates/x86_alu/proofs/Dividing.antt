-- Signed division, by the numbers that the words stand for.
use Rattle.std.proofs.Common.{◌≡◌, ℕ, ◌+◌, ◌-◌, ◌*◌, ◌^◌, ◌<◌, ◌≤◌, true, false, IsTrue, sym, ◌∙◌, ap, subst, arith, ℤ, pos, negsuc, FitsSigned, inl, inr, refl}
use Rattle.std.specs.Prelude.{◌==◌, nat_le, int_div, int_rem, Some, None}
use Rattle.std.specs.Int.{w128, cast_unsigned, IsNonZero, CanDivide}
use Rattle.std.proofs.lemmas.Bool.{ne_eqb, eq-eqb, cases_Bool, and_parts, false_from_ne_true, cases_eq, cases_lt, ltb-true, leb-true}
use Rattle.x86_forms.specs.Validity.{word_ok}
use Rattle.x86_forms.specs.Arithmetic.{signed, bits_of, holds_signed, divided_signed}
use Rattle.x86_alu.proofs.Widths.{by_width, signed_low, signed_high}

-- the number of w bits that is 0 is the word 0
signed-zero : (w : ℕ) → IsTrue (word_ok w) → signed w 0 ≡ pos 0
signed-zero w h = by_width (λ w. signed w 0 ≡ pos 0) w h (signed_low 32 0 refl (omega arith)) (signed_low 64 0 refl (omega arith))

zero-nothing : (w by : ℕ) (d : ℤ) → IsTrue (word_ok w) → d ≡ signed w by → IsNonZero w128 d → by ≡ 0 → ⊥
zero-nothing w by d h e n z =
    let zero : d ≡ pos 0 = e ∙ ap (signed w) z ∙ signed-zero w h in
    let some : 0 < cast_unsigned w128 (pos 0) = let P : ℤ → Type 0 = λ d. IsNonZero w128 d in subst P zero n in
    omega arith

some-number : (w by : ℕ) → IsTrue (word_ok w) → 2 ^ w ≤ 2 ^ 64 → (by ≡ 0 → ⊥) → by < 2 ^ w → IsNonZero w128 (signed w by)
some-number w by h m n b =
    let P : ℤ → Type 0 = λ d. IsNonZero w128 d in
    elim (cases_lt by (2 ^ (w - 1))) [
      | inl l ↦ subst P (sym (signed_low w by h l)) (omega arith)
      | inr g ↦ subst P (sym (signed_high w by h g)) (omega arith)
    ]

nothing-zero : (w by : ℕ) (d : ℤ) → IsTrue (word_ok w) → by < 2 ^ w → d ≡ signed w by → (by ≡ 0 → ⊥) → IsNonZero w128 d
nothing-zero w by d h b e n =
    let P : ℤ → Type 0 = λ d. IsNonZero w128 d in
    let small : 2 ^ w ≤ 2 ^ 64 = by_width (λ w. 2 ^ w ≤ 2 ^ 64) w h (omega arith) (omega arith) in
    subst P (sym e) (some-number w by h small n b)

pub quotient_found : (w hi lo by : ℕ) (n d q r : ℤ) (x y : ℕ) → IsTrue (word_ok w) → n ≡ signed (2 * w) (hi * 2 ^ w + lo) → d ≡ signed w by → IsNonZero w128 d → q ≡ int_div n d → r ≡ int_rem n d → holds_signed w q ≡ true → x ≡ bits_of w q → y ≡ bits_of w r → Some (x, y) ≡ divided_signed w hi lo by
unfolding divided_signed
quotient_found w hi lo by n d q r x y h en ed nz eq er held ex ey =
    let some : (by == 0) ≡ false = ne_eqb by 0 (zero-nothing w by d h ed nz) in
    let quotient : q ≡ int_div (signed (2 * w) (hi * 2 ^ w + lo)) (signed w by) = cc in
    let rest : r ≡ int_rem (signed (2 * w) (hi * 2 ^ w + lo)) (signed w by) = cc in
    let fits : holds_signed w (int_div (signed (2 * w) (hi * 2 ^ w + lo)) (signed w by)) ≡ true = ap (holds_signed w) (sym quotient) ∙ held in
    let a : x ≡ bits_of w (int_div (signed (2 * w) (hi * 2 ^ w + lo)) (signed w by)) = ex ∙ ap (bits_of w) quotient in
    let b : y ≡ bits_of w (int_rem (signed (2 * w) (hi * 2 ^ w + lo)) (signed w by)) = ey ∙ ap (bits_of w) rest in
    simp (some, fits) cc

pub quotient_missing : (w hi lo by : ℕ) (n d q : ℤ) → n ≡ signed (2 * w) (hi * 2 ^ w + lo) → d ≡ signed w by → q ≡ int_div n d → holds_signed w q ≡ false → None ≡ divided_signed w hi lo by
unfolding divided_signed
quotient_missing w hi lo by n d q en ed eq held =
    let quotient : q ≡ int_div (signed (2 * w) (hi * 2 ^ w + lo)) (signed w by) = cc in
    let fits : holds_signed w (int_div (signed (2 * w) (hi * 2 ^ w + lo)) (signed w by)) ≡ false = ap (holds_signed w) (sym quotient) ∙ held in
    elim (cases_Bool (by == 0)) [ inl z ↦ simp z refl | inr s ↦ simp (s, fits) refl ]

-- a number that w bits hold is one that 128 bits hold
held-fits : (w : ℕ) (q : ℤ) → IsTrue (word_ok w) → holds_signed w q ≡ true → FitsSigned w128 q
unfolding holds_signed
held-fits w (pos n) h t =
    by_width (λ w. holds_signed w (pos n) ≡ true → FitsSigned w128 (pos n)) w h
    (λ t. record { sfits = omega (arith, ltb-true n (2 ^ 31) t) })
    (λ t. record { sfits = omega (arith, ltb-true n (2 ^ 63) t) })
    t
held-fits w (negsuc n) h t =
    by_width (λ w. holds_signed w (negsuc n) ≡ true → FitsSigned w128 (negsuc n)) w h
    (λ t. record { sfits = omega (arith, leb-true n (2 ^ 31 - 1) (and_parts (nat_le n (2 ^ 31 - 1)) true t).0) })
    (λ t. record { sfits = omega (arith, leb-true n (2 ^ 63 - 1) (and_parts (nat_le n (2 ^ 63 - 1)) true t).0) })
    t

pub quotient_refused : (w hi lo by : ℕ) (n d : ℤ) → IsTrue (word_ok w) → by < 2 ^ w → n ≡ signed (2 * w) (hi * 2 ^ w + lo) → d ≡ signed w by → (CanDivide w128 n d → ⊥) → None ≡ divided_signed w hi lo by
unfolding divided_signed
quotient_refused w hi lo by n d h b en ed cannot =
    elim (cases_eq by 0) [
      | inl z ↦ simp (eq-eqb by 0 z) refl
      | inr s ↦ quotient_missing w hi lo by n d (int_div n d) en ed refl (false_from_ne_true (holds_signed w (int_div n d)) (λ t. cannot (nothing-zero w by d h b ed s, held-fits w (int_div n d) h t)))
    ]
