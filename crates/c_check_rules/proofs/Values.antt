-- The numbers of C's types lie between the least of `long` and the greatest of `unsigned long`.
use Rattle.std.proofs.Common.{◌≡◌, ℕ, ◌≤ℤ◌, ◌≤◌, ◌*◌, ◌%◌, ◌<◌, ◌^◌, pos, negsuc, ℤ, true, false, Some, ap, unsigned_abs, arith}
use Rattle.std.proofs.lemmas.Int.{ints}
use Rattle.mx_base.specs.declared.numbers.IntKind.{IntKind}
use Rattle.mx_base.specs.declared.numbers.IntKind.TheVariants.{I8, U8, I16, U16, I32, U32, I64, U64}
use Rattle.mx_base.specs.Numbers.{IsNumberOf, value_of, number_of, wrapped, residue, word_of}
use Rattle.mx_base.specs.declared.operators.Arithmetic.TheVariants.{Mul}
use Rattle.mx_base.specs.Operators.{arithmetic, word_arithmetic}
use Rattle.c_check_rules.specs.Constants.{is_unsigned_long}

pub least_bound : (k : IntKind) (n : ℤ) → IsNumberOf k n → negsuc 0x7fff_ffff_ffff_ffff ≤ℤ n
least_bound I8 n h = omega (arith, ints)
least_bound U8 n h = omega (arith, ints)
least_bound I16 n h = omega (arith, ints)
least_bound U16 n h = omega (arith, ints)
least_bound I32 n h = omega (arith, ints)
least_bound U32 n h = omega (arith, ints)
least_bound I64 n h = omega (arith, ints)
least_bound U64 n h = omega (arith, ints)

pub greatest_bound : (k : IntKind) (n : ℤ) → IsNumberOf k n → n ≤ℤ pos 0xffff_ffff_ffff_ffff
greatest_bound I8 n h = omega (arith, ints)
greatest_bound U8 n h = omega (arith, ints)
greatest_bound I16 n h = omega (arith, ints)
greatest_bound U16 n h = omega (arith, ints)
greatest_bound I32 n h = omega (arith, ints)
greatest_bound U32 n h = omega (arith, ints)
greatest_bound I64 n h = omega (arith, ints)
greatest_bound U64 n h = omega (arith, ints)

pub size_bound : (k : IntKind) (n : ℤ) → IsNumberOf k n → unsigned_abs n ≤ 0xffff_ffff_ffff_ffff
size_bound k (pos n) h = let high : pos n ≤ℤ pos 0xffff_ffff_ffff_ffff = greatest_bound k (pos n) h in omega (arith, ints)
size_bound k (negsuc n) h = let low : negsuc 0x7fff_ffff_ffff_ffff ≤ℤ negsuc n = least_bound k (negsuc n) h in omega (arith, ints)

greatest_narrow : (k : IntKind) (n : ℤ) → is_unsigned_long k ≡ false → IsNumberOf k n → n ≤ℤ pos 0x7fff_ffff_ffff_ffff
greatest_narrow I8 n e h = omega (arith, ints)
greatest_narrow U8 n e h = omega (arith, ints)
greatest_narrow I16 n e h = omega (arith, ints)
greatest_narrow U16 n e h = omega (arith, ints)
greatest_narrow I32 n e h = omega (arith, ints)
greatest_narrow U32 n e h = omega (arith, ints)
greatest_narrow I64 n e h = omega (arith, ints)
greatest_narrow U64 n e h = absurd (cc)

pub narrow_bound : (k : IntKind) (n : ℤ) → IsNumberOf k n → is_unsigned_long k ≡ false → unsigned_abs n ≤ 0x8000_0000_0000_0000
narrow_bound k (pos n) h e = let high : pos n ≤ℤ pos 0x7fff_ffff_ffff_ffff = greatest_narrow k (pos n) e h in omega (arith, ints)
narrow_bound k (negsuc n) h e = let low : negsuc 0x7fff_ffff_ffff_ffff ≤ℤ negsuc n = least_bound k (negsuc n) h in omega (arith, ints)

product_word : (a b : ℕ) → a < 2 ^ 64 → b < 2 ^ 64 → (((a % 0x1_0000_0000_0000_0000) * (b % 0x1_0000_0000_0000_0000)) % 0x1_0000_0000_0000_0000) % 0x1_0000_0000_0000_0000 ≡ (a * b) % 0x1_0000_0000_0000_0000
product_word a b p q =
    let ea : a % 0x1_0000_0000_0000_0000 ≡ a = omega arith in
    let eb : b % 0x1_0000_0000_0000_0000 ≡ b = omega arith in
    rw (ea, eb) (omega arith)

pub low_product_is : (k : IntKind) (a b : ℕ) → is_unsigned_long k ≡ true → a < 2 ^ 64 → b < 2 ^ 64 → word_arithmetic Mul k a b ≡ Some ((a * b) % 0x1_0000_0000_0000_0000)
unfolding word_arithmetic arithmetic value_of number_of wrapped residue word_of
low_product_is I8 a b e p q = absurd (cc)
low_product_is U8 a b e p q = absurd (cc)
low_product_is I16 a b e p q = absurd (cc)
low_product_is U16 a b e p q = absurd (cc)
low_product_is I32 a b e p q = absurd (cc)
low_product_is U32 a b e p q = absurd (cc)
low_product_is I64 a b e p q = absurd (cc)
low_product_is U64 a b e p q = ap Some (product_word a b p q)
