-- Bounds as 16 bytes.
use Rattle.std.proofs.Common.{◌≡◌, ℕ, zero, suc, ◌+◌, ◌*◌, ◌/◌, ◌%◌, ◌^◌, ◌<◌, List, ◌++◌, refl, sym, ap, ◌∙◌, arith}
use Rattle.std.specs.Prelude.{slice_range}
use Rattle.std.specs.Int.{w64, from_le_bytes, to_le_bytes}
use Rattle.std.proofs.Math.Nat.{pow-suc, mul_assoc}
use Rattle.mx_base.specs.Memory.{Bytes, number_at, with_number, list_at, with_list, with_byte}
use Rattle.paged_memory.proofs.Numbers.{number_of_list, with_number_bytes}
use Rattle.paged_memory.proofs.PageBytes.{list_at-add, with_list-append}
use Rattle.x86_forms.specs.Table.{from_stored}
use Rattle.mpx_core.specs.Registers.{held_bounds}

-- ---- numbers of two parts

eight_on : (a : ℕ) → a + 1 + 1 + 1 + 1 + 1 + 1 + 1 + 1 ≡ a + 8
eight_on a = omega arith

number_halves : (m : Bytes) (a : ℕ) → number_at 16 m a ≡ number_at 8 m a + 2 ^ 64 * number_at 8 m (a + 1 + 1 + 1 + 1 + 1 + 1 + 1 + 1)
unfolding number_at
number_halves m a = omega arith

number_at-16 : (m : Bytes) (a : ℕ) → number_at 16 m a ≡ number_at 8 m a + 2 ^ 64 * number_at 8 m (a + 8)
number_at-16 m a = number_halves m a ∙ ap (λ b. number_at 8 m a + 2 ^ 64 * number_at 8 m b) (eight_on a)

with_halves : (m : Bytes) (a v : ℕ) → with_number 16 m a v ≡ with_number 8 (with_number 8 m a v) (a + 1 + 1 + 1 + 1 + 1 + 1 + 1 + 1) (v / 256 / 256 / 256 / 256 / 256 / 256 / 256 / 256)
unfolding with_number
with_halves m a v = refl

turned : (p : ℕ) → p * 256 ≡ 256 * p
turned p = omega arith

-- no more than the low bytes of a number are written
with_number_low : (n : ℕ) (m : Bytes) (a v w : ℕ) → with_number n m a (v + 256 ^ n * w) ≡ with_number n m a v
unfolding with_number
with_number_low zero m a v w = refl
with_number_low (suc n) m a v w =
    let more : 256 ^ suc n * w ≡ 256 * (256 ^ n * w) = ap (λ p. p * w) (pow-suc 256 n ∙ turned (256 ^ n)) ∙ mul_assoc 256 (256 ^ n) w in
    let first : (v + 256 ^ suc n * w) % 256 ≡ v % 256 = omega (arith, more) in
    let rest : (v + 256 ^ suc n * w) / 256 ≡ v / 256 + 256 ^ n * w = omega (arith, more) in
    (λ i. with_number n (with_byte m a (first i)) (a + 1) (rest i)) ∙ with_number_low n (with_byte m a (v % 256)) (a + 1) (v / 256) w

high_word : (lb held : ℕ) → lb < 2 ^ 64 → (lb + held * 2 ^ 64) / 256 / 256 / 256 / 256 / 256 / 256 / 256 / 256 ≡ held
high_word lb held fits = omega arith

pub stored_number : (m : Bytes) (a lb held : ℕ) → lb < 2 ^ 64 → with_number 16 m a (lb + held * 2 ^ 64) ≡ with_number 8 (with_number 8 m a lb) (a + 8) held
stored_number m a lb held fits =
    let parts : lb + held * 2 ^ 64 ≡ lb + 256 ^ 8 * held = omega arith in
    let high = high_word lb held fits in
    with_halves m a (lb + held * 2 ^ 64)
    ∙ (λ i. with_number 8 (with_number 8 m a (parts i)) (eight_on a i) (high i))
    ∙ ap (λ k. with_number 8 k (a + 8) held) (with_number_low 8 m a lb held)

-- ---- reading

word : (m : Bytes) (a : ℕ) → from_le_bytes w64 (list_at 8 m a) ≡ number_at 8 m a
unfolding list_at
word m a = number_of_list 8 refl m a 0 refl

pub first_word : (m : Bytes) (a : ℕ) → from_le_bytes w64 (slice_range (list_at 16 m a) 0 8) ≡ number_at 8 m a
unfolding list_at
first_word m a = word m a

pub second_word : (m : Bytes) (a : ℕ) → from_le_bytes w64 (slice_range (list_at 16 m a) 8 16) ≡ number_at 8 m (a + 8)
unfolding list_at
second_word m a = ap (λ (xs : List ℕ). from_le_bytes w64 (slice_range xs 8 16)) (list_at-add 8 8 m a) ∙ word m (a + 8)

pub from_words : (m : Bytes) (a lb held : ℕ) → lb ≡ number_at 8 m a → held ≡ number_at 8 m (a + 8) → lb < 2 ^ 64 → held < 2 ^ 64 → from_stored (number_at 16 m a) ≡ held_bounds lb held
from_words m a lb held first second low high =
    let whole = number_at-16 m a in
    let one : number_at 16 m a % 2 ^ 64 ≡ lb = omega (arith, whole, first, second, low) in
    let two : number_at 16 m a / 2 ^ 64 % 2 ^ 64 ≡ held = omega (arith, whole, first, second, low, high) in
    λ i. held_bounds (one i) (two i)

-- ---- writing

pub two_words_put : (m : Bytes) (a lb held : ℕ) → lb < 2 ^ 64 → with_list m a (to_le_bytes w64 lb ++ to_le_bytes w64 held) ≡ with_number 16 m a (lb + held * 2 ^ 64)
two_words_put m a lb held fits =
    with_list-append (to_le_bytes w64 lb) (to_le_bytes w64 held) m a
    ∙ ap (λ k. with_list k (a + 8) (to_le_bytes w64 held)) (with_number_bytes 8 m a lb refl)
    ∙ with_number_bytes 8 (with_number 8 m a lb) (a + 8) held refl
    ∙ sym (stored_number m a lb held fits)
