-- A signed number again from its low bytes.
use Rattle.std.proofs.Common.{◌≡◌, ◌<◌, ◌+◌, ◌-◌, ◌*◌, ◌/◌, ◌%◌, ◌^◌, IsTrue, ℕ, suc, arith, ℤ, pos, ap, ◌∙◌}
use Rattle.std.specs.Prelude.{negsuc, slice_index}
use Rattle.std.specs.Int.{cast_signed, cast_unsigned, from_le_bytes, w8, w16, w32, w64}
use Rattle.std.proofs.lemmas.Grind.{common_steps}
use Rattle.std.proofs.lemmas.Int.{ints}
use Rattle.std.proofs.lemmas.Nat.{from_le_bytes-to_le_bytes_8}
use Rattle.x86_forms.specs.Fits.{fits_8, fits_16, fits_32, fits_64, fits_count}
use Rattle.x86_forms.specs.Spelling.{low_bytes}

-- one byte
pub byte_back : (z : ℤ) → IsTrue (fits_8 z) → cast_signed w8 (slice_index (low_bytes 1 z) 0) ≡ z
unfolding low_bytes
byte_back (pos n) h = grind (arith, ints, common_steps)
byte_back (negsuc n) h = grind (arith, ints, common_steps)

pub count_back : (z : ℤ) → IsTrue (fits_count z) → pos (slice_index (low_bytes 1 z) 0) ≡ z
unfolding low_bytes
count_back (pos n) h = grind (arith, ints, common_steps)
count_back (negsuc n) h = absurd (grind (arith, common_steps))

-- two
two_of : (n : ℕ) → n % 256 + n / 256 % 256 * 256 ≡ n % 2 ^ 16
two_of n = omega arith

two_high : (n : ℕ) → n < 2 ^ 15 → cast_signed w16 ((2 ^ 64 - suc n) % 2 ^ 16) ≡ negsuc n
two_high n h = let e : (2 ^ 64 - suc n) % 2 ^ 16 ≡ 2 ^ 16 - suc n = omega arith in rw e (grind (arith, ints, common_steps))

two_low : (n : ℕ) → n < 2 ^ 15 → cast_signed w16 (n % 2 ^ 16) ≡ pos n
two_low n h = let e : n % 2 ^ 16 ≡ n = omega arith in rw e (grind (arith, ints, common_steps))

pub two_back : (z : ℤ) → IsTrue (fits_16 z) → cast_signed w16 (from_le_bytes w16 (low_bytes 2 z)) ≡ z
unfolding low_bytes
two_back (pos n) h = rw (two_of n) (two_low n (grind (arith, common_steps)))
two_back (negsuc n) h = rw (two_of (2 ^ 64 - suc n)) (two_high n (grind (arith, common_steps)))

-- four
four_of : (n : ℕ) → n % 256 + n / 256 % 256 * 256 + n / 65536 % 256 * 65536 + n / 16777216 % 256 * 16777216 ≡ n % 2 ^ 32
four_of n = omega arith

four_high : (n : ℕ) → n < 2 ^ 31 → cast_signed w32 ((2 ^ 64 - suc n) % 2 ^ 32) ≡ negsuc n
four_high n h = let e : (2 ^ 64 - suc n) % 2 ^ 32 ≡ 2 ^ 32 - suc n = omega arith in rw e (grind (arith, ints, common_steps))

four_low : (n : ℕ) → n < 2 ^ 31 → cast_signed w32 (n % 2 ^ 32) ≡ pos n
four_low n h = let e : n % 2 ^ 32 ≡ n = omega arith in rw e (grind (arith, ints, common_steps))

pub four_back : (z : ℤ) → IsTrue (fits_32 z) → cast_signed w32 (from_le_bytes w32 (low_bytes 4 z)) ≡ z
unfolding low_bytes
four_back (pos n) h = rw (four_of n) (four_low n (grind (arith, common_steps)))
four_back (negsuc n) h = rw (four_of (2 ^ 64 - suc n)) (four_high n (grind (arith, common_steps)))

-- eight
under_64 : (z : ℤ) → IsTrue (fits_64 z) → cast_unsigned w64 z < 2 ^ 64
under_64 (pos n) h = grind (arith, common_steps)
under_64 (negsuc n) h = omega arith

signed_back : (z : ℤ) → IsTrue (fits_64 z) → cast_signed w64 (cast_unsigned w64 z) ≡ z
signed_back (pos n) h = grind (arith, ints, common_steps)
signed_back (negsuc n) h = grind (arith, ints, common_steps)

pub eight_back : (z : ℤ) → IsTrue (fits_64 z) → cast_signed w64 (from_le_bytes w64 (low_bytes 8 z)) ≡ z
unfolding low_bytes
eight_back z h = ap (λ n. cast_signed w64 n) (from_le_bytes-to_le_bytes_8 (cast_unsigned w64 z) (under_64 z h)) ∙ signed_back z h
