-- Numbers of 32 or 64 bits: a fact at both widths is a fact at each width of an operation.
use Rattle.std.proofs.Common.{◌≡◌, ℕ, suc, ◌+◌, ◌-◌, ◌%◌, ◌^◌, ◌<◌, ◌≤◌, inl, inr, true, false, ◌&&◌, nat_eq, IsTrue, subst, sym, ◌∙◌, ap, arith, ℤ, pos, negsuc, ◌-ℤ◌, FitsSigned}
use Rattle.std.specs.Int.{w128, w64, cast_unsigned, cast_signed}
use Rattle.std.specs.Prelude.{int_le, int_lt}
use Rattle.std.proofs.lemmas.Bool.{or_cases, eqb-true}
use Rattle.std.proofs.lemmas.Bool.Decides.{nat_tests}
use Rattle.mx_base.specs.Numbers.{residue, as_signed}
use Rattle.mx_base.proofs.NumbersLemmas.{as_signed_low, as_signed_high}
use Rattle.x86_forms.specs.Validity.{word_ok}
use Rattle.x86_forms.specs.Arithmetic.{signed, bits_of, holds_signed, low, difference}

pub by_width : (P : ℕ → Type 0) (w : ℕ) → IsTrue (word_ok w) → P 32 → P 64 → P w
by_width P w h p q = elim (or_cases (nat_eq w 32) (nat_eq w 64) h) [
  | inl e ↦ subst P (sym (eqb-true w 32 e)) p
  | inr e ↦ subst P (sym (eqb-true w 64 e)) q
]

pub signed_low : (w a : ℕ) → IsTrue (word_ok w) → a < 2 ^ (w - 1) → signed w a ≡ pos a
signed_low w a h = by_width (λ w. a < 2 ^ (w - 1) → signed w a ≡ pos a) w h (λ p. as_signed_low (2 ^ 32) a (omega arith)) (λ p. as_signed_low (2 ^ 64) a (omega arith))

pub signed_high : (w a : ℕ) → IsTrue (word_ok w) → 2 ^ (w - 1) ≤ a → signed w a ≡ negsuc (2 ^ w - 1 - a)
signed_high w a h = by_width (λ w. 2 ^ (w - 1) ≤ a → signed w a ≡ negsuc (2 ^ w - 1 - a)) w h (λ p. as_signed_high (2 ^ 32) a (omega arith)) (λ p. as_signed_high (2 ^ 64) a (omega arith))

-- the signed number of 64 bits is the word's cast
pub cast_signed-64 : (a : ℕ) → a < 2 ^ 64 → cast_signed w64 a ≡ signed 64 a
unfolding as_signed
cast_signed-64 a h = grind (arith, nat_tests)

-- the low bits of a low word are the low bits
pub low-word : (w n : ℕ) → IsTrue (word_ok w) → n % 2 ^ 64 % 2 ^ w ≡ n % 2 ^ w
low-word w n h = by_width (λ w. n % 2 ^ 64 % 2 ^ w ≡ n % 2 ^ w) w h (omega arith) (omega arith)

-- the low bits of the 128-bit word of a signed number
pub low-of_z : (w : ℕ) (n : ℤ) → IsTrue (word_ok w) → FitsSigned w128 n → low w (cast_unsigned w128 n % 2 ^ 64) ≡ bits_of w n
unfolding residue
low-of_z w (pos n) h f = low-word w n h
low-of_z w (negsuc n) h f = by_width (λ w. (2 ^ 128 - suc n) % 2 ^ 64 % 2 ^ w ≡ 2 ^ w - 1 - n % 2 ^ w) w h (let b : n < 2 ^ 127 = f.sfits in omega arith) (let b : n < 2 ^ 127 = f.sfits in omega arith)

pub is_32 : (w : ℕ) → IsTrue (word_ok w) → (w ≡ 64 → ⊥) → w ≡ 32
is_32 w h n = elim (or_cases (nat_eq w 32) (nat_eq w 64) h) [ inl e ↦ eqb-true w 32 e | inr e ↦ absurd (n (eqb-true w 64 e)) ]

-- the two tests of a signed number's range, at values that stand for the number and for the ends
pub in_range_test : (w h : ℕ) (n n' low' high' : ℤ) → n' ≡ n → high' ≡ pos h → low' ≡ pos 0 -ℤ pos h → h ≡ 2 ^ (w - 1) → int_le low' n' ≡ true → int_lt n' high' ≡ holds_signed w n
unfolding holds_signed
in_range_test w h n n' low' high' en eh el e t =
    let least : int_le (pos 0 -ℤ pos (2 ^ (w - 1))) n ≡ true = cc in
    let same : int_lt n' high' ≡ int_lt n (pos (2 ^ (w - 1))) = cc in
    same ∙ ap (λ x. x && int_lt n (pos (2 ^ (w - 1)))) (sym least)

pub below_range_test : (w h : ℕ) (n n' low' : ℤ) → n' ≡ n → low' ≡ pos 0 -ℤ pos h → h ≡ 2 ^ (w - 1) → int_le low' n' ≡ false → int_le low' n' ≡ holds_signed w n
unfolding holds_signed
below_range_test w h n n' low' en el e t =
    let least : int_le (pos 0 -ℤ pos (2 ^ (w - 1))) n ≡ false = cc in
    t ∙ ap (λ x. x && int_lt n (pos (2 ^ (w - 1)))) (sym least)

pub cast_signed-128 : (a : ℕ) → a < 2 ^ 128 → cast_signed w128 a ≡ signed 128 a
unfolding as_signed
cast_signed-128 a h = grind (arith, nat_tests)

-- a wrapped difference of words, cut to the width
pub low-difference : (w a b : ℕ) → IsTrue (word_ok w) → a < 2 ^ w → b < 2 ^ w → low w ((a + (2 ^ 64 - b)) % 2 ^ 64) ≡ difference w a b
low-difference w a b h = by_width (λ w. a < 2 ^ w → b < 2 ^ w → (a + (2 ^ 64 - b)) % 2 ^ 64 % 2 ^ w ≡ (a + (2 ^ w - b)) % 2 ^ w) w h (λ p q. omega arith) (λ p q. omega arith)
