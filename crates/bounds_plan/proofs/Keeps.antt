-- A number goes from one type to another by its word exactly where every number of the first type is one of the second.
use Rattle.std.proofs.Common.{◌≡◌, ℕ, suc, ◌-◌, ◌*◌, ◌/◌, ◌%◌, ◌^◌, ◌<◌, ◌≤◌, Bool, true, false, cond, nat_lt, nat_le, ℤ, pos, negsuc, ◌≤ℤ◌, refl, ap, ◌∙◌, arith}
use Rattle.std.proofs.lemmas.Int.{ints}
use Rattle.std.proofs.lemmas.Bool.Decides.{nat_tests}
use Rattle.std.proofs.Math.Nat.{pow-suc}
use Rattle.std.proofs.Math.Pow.{pow_mono}
use Rattle.mx_base.specs.declared.numbers.IntKind.{IntKind}
use Rattle.mx_base.specs.declared.numbers.IntKind.TheVariants.{I8, U8, I16, U16, I32, U32, I64, U64}
use Rattle.mx_base.specs.Numbers.{modulus, is_signed, IsNumberOf, residue, as_signed, number_of, value_of, word_of}
use Rattle.c_types.specs.Layouts.{width}
use Rattle.bounds_plan.specs.elaboration.Types.{keeps}

-- ---- which numbers a type has

modulus-width : (k : IntKind) → modulus k ≡ 2 ^ (8 * width k)
modulus-width I8 = refl
modulus-width U8 = refl
modulus-width I16 = refl
modulus-width U16 = refl
modulus-width I32 = refl
modulus-width U32 = refl
modulus-width I64 = refl
modulus-width U64 = refl

some : (k : IntKind) → 2 ≤ modulus k
some I8 = omega arith
some U8 = omega arith
some I16 = omega arith
some U16 = omega arith
some I32 = omega arith
some U32 = omega arith
some I64 = omega arith
some U64 = omega arith

as_wide : (a b : IntKind) → width a ≤ width b → modulus a ≤ modulus b
as_wide a b h =
    let more : 2 ^ (8 * width a) ≤ 2 ^ (8 * width b) = pow_mono (omega (arith, h)) in
    omega (arith, more, modulus-width a, modulus-width b)

wider : (a b : IntKind) → width a < width b → 2 * modulus a ≤ modulus b
wider a b h =
    let more : 2 ^ suc (8 * width a) ≤ 2 ^ (8 * width b) = pow_mono (omega (arith, h)) in
    let twice = pow-suc 2 (8 * width a) in
    omega (arith, more, twice, modulus-width a, modulus-width b)

-- the numbers of a type with so many, with numbers below 0 or without
abbrev Within : (signed : Bool) → (m : ℕ) → ℤ → Type 0
Within s m n = (cond s (negsuc (m / 2 - 1)) (pos 0) ≤ℤ n) × (n ≤ℤ cond s (pos (m / 2 - 1)) (pos (m - 1)))

abbrev keeps_by : (s t : Bool) (a b : ℕ) → Bool
keeps_by s t a b = cond s (cond t (nat_le a b) false) (cond t (nat_lt a b) (nat_le a b))

fits_by : (s t : Bool) (a b m n : ℕ) → 2 ≤ m → (a ≤ b → m ≤ n) → (a < b → 2 * m ≤ n) → keeps_by s t a b ≡ true → (x : ℤ) → Within s m x → Within t n x
fits_by true true a b m n two as_many twice e x is =
    let wide : a ≤ b = grind (arith, nat_tests, e) in
    let more = as_many wide in
    (omega (arith, ints, more, is.0), omega (arith, ints, more, is.1))
fits_by true false a b m n two as_many twice e x is = absurd (grind (arith, nat_tests, e))
fits_by false true a b m n two as_many twice e x is =
    let wide : a < b = grind (arith, nat_tests, e) in
    let more = twice wide in
    (omega (arith, ints, more, two, is.0), omega (arith, ints, more, two, is.1))
fits_by false false a b m n two as_many twice e x is =
    let wide : a ≤ b = grind (arith, nat_tests, e) in
    let more = as_many wide in
    (omega (arith, ints, more, is.0), omega (arith, ints, more, is.1))

pub kept_fits : (from to : IntKind) → keeps from to ≡ true → (n : ℤ) → IsNumberOf from n → IsNumberOf to n
kept_fits from to e n is = fits_by (is_signed from) (is_signed to) (width from) (width to) (modulus from) (modulus to) (some from) (as_wide from to) (wider from to) e n is

le_by : (a b : ℕ) → (b < a → ⊥) → nat_le a b ≡ true
le_by a b h = by_cases (nat_le a b) refl
  where
    by_cases : (c : Bool) → nat_le a b ≡ c → nat_le a b ≡ true
    by_cases true e = e
    by_cases false e = absurd (h (grind (arith, nat_tests, e)))

lt_by : (a b : ℕ) → (b ≤ a → ⊥) → nat_lt a b ≡ true
lt_by a b h = by_cases (nat_lt a b) refl
  where
    by_cases : (c : Bool) → nat_lt a b ≡ c → nat_lt a b ≡ true
    by_cases true e = e
    by_cases false e = absurd (h (grind (arith, nat_tests, e)))

only_by : (s t : Bool) (a b m n : ℕ) → 2 ≤ m → 2 ≤ n → (b ≤ a → n ≤ m) → (b < a → 2 * n ≤ m) → ((x : ℤ) → Within s m x → Within t n x) → keeps_by s t a b ≡ true
only_by true true a b m n two two' as_many twice h = le_by a b λ wide.
    let more = twice wide in
    let low = h (negsuc (m / 2 - 1)) (omega (arith, ints), omega (arith, ints)) in
    omega (arith, ints, more, two, two', low.0)
only_by true false a b m n two two' as_many twice h =
    let low = h (negsuc (m / 2 - 1)) (omega (arith, ints), omega (arith, ints)) in
    absurd (omega (arith, ints, low.0))
only_by false true a b m n two two' as_many twice h = lt_by a b λ wide.
    let more = as_many wide in
    let high = h (pos (m - 1)) (omega (arith, ints), omega (arith, ints)) in
    omega (arith, ints, more, two, two', high.1)
only_by false false a b m n two two' as_many twice h = le_by a b λ wide.
    let more = twice wide in
    let high = h (pos (m - 1)) (omega (arith, ints), omega (arith, ints)) in
    omega (arith, ints, more, two, two', high.1)

pub only_kept_fits : (from to : IntKind) → ((n : ℤ) → IsNumberOf from n → IsNumberOf to n) → keeps from to ≡ true
only_kept_fits from to h = only_by (is_signed from) (is_signed to) (width from) (width to) (modulus from) (modulus to) (some from) (some to) (as_wide to from) (wider to from) h

-- ---- their words

signed_some : (m r a : ℕ) → a < m / 2 → r ≡ a → as_signed m r ≡ pos a
unfolding as_signed
signed_some m r a low e = let f : as_signed m a ≡ pos a = grind (arith, nat_tests, low) in ap (λ x. as_signed m x) e ∙ f

signed_below : (m r a : ℕ) → a < m / 2 → r ≡ m - 1 - a → as_signed m r ≡ negsuc a
unfolding as_signed
signed_below m r a low e =
    let g : (nat_lt (m - 1 - a) (m / 2)) ≡ false = grind (arith, nat_tests, low) in
    let h : m - 1 - (m - 1 - a) ≡ a = omega (arith, low) in
    ap (λ x. as_signed m x) e ∙ ap (λ c. cond c (pos (m - 1 - a)) (negsuc (m - 1 - (m - 1 - a)))) g ∙ ap negsuc h

pub word_back : (k : IntKind) (n : ℤ) → IsNumberOf k n → value_of k (word_of n) ≡ n
unfolding value_of number_of word_of residue
word_back I8 (pos a) is = let low : a < 128 = omega (arith, ints, is.1) in signed_some 256 (a % 0x1_0000_0000_0000_0000 % 256) a low (omega (arith, low))
word_back I8 (negsuc a) is = let low : a < 128 = omega (arith, ints, is.0) in signed_below 256 ((0x1_0000_0000_0000_0000 - 1 - a % 0x1_0000_0000_0000_0000) % 256) a low (omega (arith, low))
word_back U8 (pos a) is = let low : a < 256 = omega (arith, ints, is.1) in ap pos (omega (arith, low))
word_back U8 (negsuc a) is = absurd (omega (arith, ints, is.0))
word_back I16 (pos a) is = let low : a < 0x8000 = omega (arith, ints, is.1) in signed_some 0x1_0000 (a % 0x1_0000_0000_0000_0000 % 0x1_0000) a low (omega (arith, low))
word_back I16 (negsuc a) is = let low : a < 0x8000 = omega (arith, ints, is.0) in signed_below 0x1_0000 ((0x1_0000_0000_0000_0000 - 1 - a % 0x1_0000_0000_0000_0000) % 0x1_0000) a low (omega (arith, low))
word_back U16 (pos a) is = let low : a < 0x1_0000 = omega (arith, ints, is.1) in ap pos (omega (arith, low))
word_back U16 (negsuc a) is = absurd (omega (arith, ints, is.0))
word_back I32 (pos a) is = let low : a < 0x8000_0000 = omega (arith, ints, is.1) in signed_some 0x1_0000_0000 (a % 0x1_0000_0000_0000_0000 % 0x1_0000_0000) a low (omega (arith, low))
word_back I32 (negsuc a) is = let low : a < 0x8000_0000 = omega (arith, ints, is.0) in signed_below 0x1_0000_0000 ((0x1_0000_0000_0000_0000 - 1 - a % 0x1_0000_0000_0000_0000) % 0x1_0000_0000) a low (omega (arith, low))
word_back U32 (pos a) is = let low : a < 0x1_0000_0000 = omega (arith, ints, is.1) in ap pos (omega (arith, low))
word_back U32 (negsuc a) is = absurd (omega (arith, ints, is.0))
word_back I64 (pos a) is = let low : a < 0x8000_0000_0000_0000 = omega (arith, ints, is.1) in signed_some 0x1_0000_0000_0000_0000 (a % 0x1_0000_0000_0000_0000 % 0x1_0000_0000_0000_0000) a low (omega (arith, low))
word_back I64 (negsuc a) is = let low : a < 0x8000_0000_0000_0000 = omega (arith, ints, is.0) in signed_below 0x1_0000_0000_0000_0000 ((0x1_0000_0000_0000_0000 - 1 - a % 0x1_0000_0000_0000_0000) % 0x1_0000_0000_0000_0000) a low (omega (arith, low))
word_back U64 (pos a) is = let low : a < 0x1_0000_0000_0000_0000 = omega (arith, ints, is.1) in ap pos (omega (arith, low))
word_back U64 (negsuc a) is = absurd (omega (arith, ints, is.0))

pub kept_word : (from to : IntKind) → keeps from to ≡ true → (n : ℤ) → IsNumberOf from n → value_of to (word_of n) ≡ n
kept_word from to e n is = word_back to n (kept_fits from to e n is)
