-- Numbers as lists of bytes.
use Rattle.std.proofs.Common.{◌≡◌, ℕ, zero, suc, ◌+◌, ◌/◌, ◌%◌, ◌<◌, ◌≤◌, true, false, cond, ◌==◌, List, [], ◌∷◌, ◌++◌, take, replicate, refl, sym, ap, ◌∙◌, subst, arith, inl, inr}
use Rattle.std.specs.Int.{w64, from_le_bytes, to_le_bytes}
use Rattle.std.proofs.lemmas.Bool.Decides.{eqb_tells}
use Rattle.mx_base.specs.Memory.{Bytes, number_at, with_number, list_at, with_list}
use Rattle.paged_memory.specs.Answers.{is_width}

-- what holds of the four widths holds of each width
pub each_width : (P : ℕ → Type 0) → P 1 → P 2 → P 4 → P 8 → (n : ℕ) → is_width n ≡ true → P n
each_width P one two four eight n e = elim (eqb_tells n 1) [
  | inl p ↦ subst P (sym p.1) one
  | inr p ↦ elim (eqb_tells n 2) [
    | inl q ↦ subst P (sym q.1) two
    | inr q ↦ elim (eqb_tells n 4) [
      | inl r ↦ subst P (sym r.1) four
      | inr r ↦ elim (eqb_tells n 8) [
        | inl s ↦ subst P (sym s.1) eight
        | inr s ↦ (let clash : false ≡ true = rw (p.0, q.0, r.0, s.0) at e in absurd (cc))
      ]
    ]
  ]
]

abbrev pub IsNumberOfList : ℕ → Type 0
IsNumberOfList n = (m : Bytes) (a k : ℕ) → n + k ≡ 8 → from_le_bytes w64 (list_at n m a ++ replicate k 0) ≡ number_at n m a

zeros : (n k j : ℕ) → n + k ≡ 8 → n + j ≡ 8 → k ≡ j
zeros n k j e f = omega arith

one_byte : IsNumberOfList 1
unfolding list_at number_at
one_byte m a k e = rw (zeros 1 k 7 e refl) (omega arith)

two_bytes : IsNumberOfList 2
unfolding list_at number_at
two_bytes m a k e = rw (zeros 2 k 6 e refl) (omega arith)

four_bytes : IsNumberOfList 4
unfolding list_at number_at
four_bytes m a k e = rw (zeros 4 k 4 e refl) (omega arith)

eight_bytes : IsNumberOfList 8
unfolding list_at number_at
eight_bytes m a k e = omega arith

pub number_of_list : (n : ℕ) → is_width n ≡ true → IsNumberOfList n
number_of_list = each_width IsNumberOfList one_byte two_bytes four_bytes eight_bytes

-- ---- the bytes of a number

abbrev low_bytes : ℕ → ℕ → List ℕ
low_bytes zero v = []
low_bytes (suc n) v = v % 256 ∷ low_bytes n (v / 256)

with_low_bytes : (n : ℕ) (m : Bytes) (a v : ℕ) → with_list m a (low_bytes n v) ≡ with_number n m a v
unfolding with_list with_number
with_low_bytes zero m a v = refl
with_low_bytes (suc n) m a v = with_low_bytes n (λ x. cond (x == a) (v % 256) (m x)) (a + 1) (v / 256)

abbrev TakesLow : ℕ → Type 0
TakesLow n = (v : ℕ) → take n (to_le_bytes w64 v) ≡ low_bytes n v

eight_low : (v : ℕ) → to_le_bytes w64 v ≡ low_bytes 8 v
eight_low v =
    let v2 : v / 0x10000 ≡ v / 256 / 256 = omega arith in
    let v3 : v / 0x1000000 ≡ v / 256 / 256 / 256 = omega arith in
    let v4 : v / 0x100000000 ≡ v / 256 / 256 / 256 / 256 = omega arith in
    let v5 : v / 0x10000000000 ≡ v / 256 / 256 / 256 / 256 / 256 = omega arith in
    let v6 : v / 0x1000000000000 ≡ v / 256 / 256 / 256 / 256 / 256 / 256 = omega arith in
    let v7 : v / 0x100000000000000 ≡ v / 256 / 256 / 256 / 256 / 256 / 256 / 256 = omega arith in
    λ i. v % 256 ∷ v / 256 % 256 ∷ v2 i % 256 ∷ v3 i % 256 ∷ v4 i % 256 ∷ v5 i % 256 ∷ v6 i % 256 ∷ v7 i % 256 ∷ []

one_low : TakesLow 1
one_low v = ap (take 1) (eight_low v)

two_low : TakesLow 2
two_low v = ap (take 2) (eight_low v)

four_low : TakesLow 4
four_low v = ap (take 4) (eight_low v)

take_eight_low : TakesLow 8
take_eight_low v = ap (take 8) (eight_low v)

takes_low : (n : ℕ) → is_width n ≡ true → TakesLow n
takes_low = each_width TakesLow one_low two_low four_low take_eight_low

pub with_number_bytes : (n : ℕ) (m : Bytes) (a v : ℕ) → is_width n ≡ true → with_list m a (take n (to_le_bytes w64 v)) ≡ with_number n m a v
with_number_bytes n m a v e = ap (with_list m a) (takes_low n e v) ∙ with_low_bytes n m a v

pub width_most : (n : ℕ) → is_width n ≡ true → n ≤ 8
width_most = each_width (λ n. n ≤ 8) (omega arith) (omega arith) (omega arith) (omega arith)

pub width_some : (n : ℕ) → is_width n ≡ true → 0 < n
width_some = each_width (λ n. 0 < n) (omega arith) (omega arith) (omega arith) (omega arith)
