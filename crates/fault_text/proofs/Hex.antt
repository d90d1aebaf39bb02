-- The digits of a number in base 16.
use Rattle.std.proofs.Common.{◌≡◌, ℕ, zero, suc, ◌+◌, ◌/◌, ◌%◌, ◌^◌, ◌<◌, ◌≤◌, ◌==◌, true, false, cond, List, [], ◌∷◌, length, drop, ap, arith}
use Rattle.std.proofs.Math.ListN.{drop_of_length-le}
use Rattle.std.specs.Fmt.{digits, digits_onto, digit_glyph}

begun_in : (base n : ℕ) (out : List ℕ) → length out ≡ 64 → digits_onto 64 base false n (drop 64 out) ≡ digits base false n
unfolding digits
begun_in base n out e = ap (digits_onto 64 base false n) (drop_of_length-le out {i = 64} (omega (arith, e)))

-- before any is written
pub digits_begun : (n : ℕ) (out : List ℕ) → length out ≡ 64 → digits_onto 64 16 false n (drop 64 out) ≡ digits 16 false n
digits_begun n out e = begun_in 16 n out e

-- below 16 ^ k there are at most k
few : (k f n : ℕ) (acc : List ℕ) → n < 16 ^ suc k → length (digits_onto (suc f) 16 false n acc) ≤ suc k + length acc
few zero f n acc h = let e : n / 16 ≡ 0 = omega arith in rw e (omega arith)
few (suc k) zero n acc h =
    elim (n / 16 == 0) as (λ b. length (cond b (digit_glyph false (n % 16) ∷ acc) (digit_glyph false (n % 16) ∷ acc)) ≤ suc (suc k) + length acc)
    [ true ↦ omega arith | false ↦ omega arith ]
few (suc k) (suc f) n acc h =
    let next : n / 16 < 16 ^ suc k = omega arith in
    elim (n / 16 == 0) as (λ b. length (cond b (digit_glyph false (n % 16) ∷ acc) (digits_onto (suc f) 16 false (n / 16) (digit_glyph false (n % 16) ∷ acc))) ≤ suc (suc k) + length acc)
    [ true ↦ omega arith | false ↦ omega (arith, few k f (n / 16) (digit_glyph false (n % 16) ∷ acc) next) ]

pub length_hex : (n : ℕ) → n < 2 ^ 64 → length (digits 16 false n) ≤ 16
unfolding digits
length_hex n h = omega (arith, few 15 63 n [] h)
