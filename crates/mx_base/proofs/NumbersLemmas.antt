-- Numbers modulo the size of a type.
use Rattle.std.proofs.Common.{◌≡◌, ℕ, ◌-◌, ◌*◌, ◌/◌, ◌<◌, ◌≤◌, true, false, cond, nat_lt, ℤ, pos, negsuc, ◌≤ℤ◌, refl, sym, ap, ◌∙◌, arith}
use Rattle.std.proofs.lemmas.Int.{ints}
use Rattle.std.proofs.Math.Nat.{mod-eq_of_lt}
use Rattle.std.proofs.lemmas.Bool.Decides.{nat_tests}
use Rattle.mx_base.specs.declared.numbers.IntKind.{IntKind}
use Rattle.mx_base.specs.declared.numbers.IntKind.TheVariants.{I8, U8, I16, U16, I32, U32, I64, U64}
use Rattle.mx_base.specs.Numbers.{modulus, is_signed, IsNumberOf, residue, as_signed, number_of, wrapped}

pub residue-lt : (m : ℕ) (n : ℤ) → 0 < m → residue m n < m
unfolding residue
residue-lt m (pos a) some = omega arith
residue-lt m (negsuc a) some = omega arith

pub residue-number : (m v : ℕ) → v < m → residue m (pos v) ≡ v
unfolding residue
residue-number m v below = mod-eq_of_lt below

pub as_signed_low : (m v : ℕ) → v < m / 2 → as_signed m v ≡ pos v
unfolding as_signed
as_signed_low m v low = grind (arith, nat_tests)

pub as_signed_high : (m v : ℕ) → m / 2 ≤ v → as_signed m v ≡ negsuc (m - 1 - v)
unfolding as_signed
as_signed_high m v high = grind (arith, nat_tests)

-- two's complement has the same residue
pub residue-as_signed : (h v : ℕ) → v < 2 * h → residue (2 * h) (as_signed (2 * h) v) ≡ v
unfolding residue as_signed
residue-as_signed h v below = elim (nat_lt v (2 * h / 2)) as (λ b. residue (2 * h) (cond b (pos v) (negsuc (2 * h - 1 - v))) ≡ v) [
  | true ↦ mod-eq_of_lt below
  | false ↦ let low : 2 * h - 1 - v < 2 * h = omega arith in let same = mod-eq_of_lt low in omega (arith, same)
]

pub as_signed_within : (h v : ℕ) → v < 2 * h → (negsuc (h - 1) ≤ℤ as_signed (2 * h) v) × (as_signed (2 * h) v ≤ℤ pos (h - 1))
unfolding as_signed
as_signed_within h v below = elim (nat_lt v (2 * h / 2)) as (λ b. nat_lt v (2 * h / 2) ≡ b → (negsuc (h - 1) ≤ℤ cond b (pos v) (negsuc (2 * h - 1 - v))) × (cond b (pos v) (negsuc (2 * h - 1 - v)) ≤ℤ pos (h - 1))) [
  | true ↦ λ e. let low : v < h = grind (arith, nat_tests) in (omega (arith, ints), omega (arith, ints))
  | false ↦ λ e. let high : h ≤ v = grind (arith, nat_tests) in (omega (arith, ints), omega (arith, ints))
] refl

-- each type has a modulus of twice a number above 0
pub half : (k : IntKind) → (h : ℕ) × (2 * h ≡ modulus k) × (0 < h) × (h ≡ modulus k / 2)
half k = elim k as (λ k. (h : ℕ) × (2 * h ≡ modulus k) × (0 < h) × (h ≡ modulus k / 2)) [
  | I8 ↦ (0x80, refl, omega arith, refl)
  | U8 ↦ (0x80, refl, omega arith, refl)
  | I16 ↦ (0x8000, refl, omega arith, refl)
  | U16 ↦ (0x8000, refl, omega arith, refl)
  | I32 ↦ (0x8000_0000, refl, omega arith, refl)
  | U32 ↦ (0x8000_0000, refl, omega arith, refl)
  | I64 ↦ (0x8000_0000_0000_0000, refl, omega arith, refl)
  | U64 ↦ (0x8000_0000_0000_0000, refl, omega arith, refl)
]

-- a number below the modulus stands for a number of the type, with the same residue
pub number_of_within : (k : IntKind) (v : ℕ) → v < modulus k → IsNumberOf k (number_of k v)
unfolding number_of
number_of_within k v below = let h = half k in
    let small : v < 2 * h.0 = rw h.1 below in
    let signed : (negsuc (modulus k / 2 - 1) ≤ℤ as_signed (modulus k) v) × (as_signed (modulus k) v ≤ℤ pos (modulus k / 2 - 1)) = rw (← h.3, ← h.1) (as_signed_within h.0 v small) in
    elim (is_signed k) as (λ b. (cond b (negsuc (modulus k / 2 - 1)) (pos 0) ≤ℤ cond b (as_signed (modulus k) v) (pos v)) × (cond b (as_signed (modulus k) v) (pos v) ≤ℤ cond b (pos (modulus k / 2 - 1)) (pos (modulus k - 1)))) [
      | true ↦ signed
      | false ↦ (omega (arith, ints), omega (arith, ints))
    ]

pub residue-number_of : (k : IntKind) (v : ℕ) → v < modulus k → residue (modulus k) (number_of k v) ≡ v
unfolding number_of
residue-number_of k v below = let h = half k in
    let small : v < 2 * h.0 = rw h.1 below in
    elim (is_signed k) as (λ b. residue (modulus k) (cond b (as_signed (modulus k) v) (pos v)) ≡ v) [
      | true ↦ rw (← h.1) (residue-as_signed h.0 v small)
      | false ↦ residue-number (modulus k) v below
    ]

pub modulus-some : (k : IntKind) → 0 < modulus k
modulus-some k = let h = half k in omega (arith, h.1, h.2)

-- C's conversion gives a number of the type, with the residue of the number converted
pub wrapped_within : (k : IntKind) (n : ℤ) → IsNumberOf k (wrapped k n)
unfolding wrapped
wrapped_within k n = number_of_within k (residue (modulus k) n) (residue-lt (modulus k) n (modulus-some k))

pub residue-wrapped : (k : IntKind) (n : ℤ) → residue (modulus k) (wrapped k n) ≡ residue (modulus k) n
unfolding wrapped
residue-wrapped k n = residue-number_of k (residue (modulus k) n) (residue-lt (modulus k) n (modulus-some k))

pub wrapped-signed : (k : IntKind) (n : ℤ) → is_signed k ≡ true → wrapped k n ≡ as_signed (modulus k) (residue (modulus k) n)
unfolding wrapped number_of
wrapped-signed k n signed = rw signed refl

pub wrapped-unsigned : (k : IntKind) (n : ℤ) → is_signed k ≡ false → wrapped k n ≡ pos (residue (modulus k) n)
unfolding wrapped number_of
wrapped-unsigned k n unsigned = rw unsigned refl

pub is_wrapped-signed : (k : IntKind) (n r : ℤ) (h low : ℕ) → 2 * h ≡ modulus k → is_signed k ≡ true → low ≡ residue (2 * h) n → r ≡ as_signed (2 * h) low → r ≡ wrapped k n
is_wrapped-signed k n r h low whole signed is read = read ∙ ap (as_signed (2 * h)) is ∙ ap (λ m. as_signed m (residue m n)) whole ∙ sym (wrapped-signed k n signed)

pub is_wrapped-unsigned : (k : IntKind) (n : ℤ) (h low : ℕ) → 2 * h ≡ modulus k → is_signed k ≡ false → low ≡ residue (2 * h) n → pos low ≡ wrapped k n
is_wrapped-unsigned k n h low whole unsigned is = ap pos is ∙ ap (λ m. pos (residue m n)) whole ∙ sym (wrapped-unsigned k n unsigned)

-- what is wrapped is of the type, and has the residue of what it was
pub IsNumberOf-wrapped : (k : IntKind) (n r : ℤ) → r ≡ wrapped k n → IsNumberOf k r
IsNumberOf-wrapped k n r is = rw is (wrapped_within k n)

pub residue-is_wrapped : (k : IntKind) (n r : ℤ) → r ≡ wrapped k n → residue (modulus k) r ≡ residue (modulus k) n
residue-is_wrapped k n r is = ap (residue (modulus k)) is ∙ residue-wrapped k n
