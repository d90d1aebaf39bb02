-- The numbers of C's integer types, and the 64-bit words that stand for them (C: 6.2.5 and 6.3.1.3, where a conversion to a signed type wraps like one to an unsigned type).
use Rattle.std.specs.Prelude.{ℕ, ◌-◌, ◌/◌, ◌%◌, nat_lt, Bool, true, false, if◌then◌else◌, ℤ, pos, negsuc, ◌≤ℤ◌}
use Rattle.mx_base.specs.declared.numbers.IntKind.{IntKind}
use Rattle.mx_base.specs.declared.numbers.IntKind.TheVariants.{I8, U8, I16, U16, I32, U32, I64, U64}

-- how many numbers a type has
abbrev pub modulus : IntKind → ℕ
modulus I8 = 0x100
modulus U8 = 0x100
modulus I16 = 0x1_0000
modulus U16 = 0x1_0000
modulus I32 = 0x1_0000_0000
modulus U32 = 0x1_0000_0000
modulus I64 = 0x1_0000_0000_0000_0000
modulus U64 = 0x1_0000_0000_0000_0000

abbrev pub is_signed : IntKind → Bool
is_signed I8 = true
is_signed U8 = false
is_signed I16 = true
is_signed U16 = false
is_signed I32 = true
is_signed U32 = false
is_signed I64 = true
is_signed U64 = false

-- how many bytes a type takes
abbrev pub size_of : IntKind → ℕ
size_of I8 = 1
size_of U8 = 1
size_of I16 = 2
size_of U16 = 2
size_of I32 = 4
size_of U32 = 4
size_of I64 = 8
size_of U64 = 8

-- the least and the greatest number of a type
abbrev pub least : IntKind → ℤ
least k = if is_signed k then negsuc (modulus k / 2 - 1) else pos 0

abbrev pub greatest : IntKind → ℤ
greatest k = if is_signed k then pos (modulus k / 2 - 1) else pos (modulus k - 1)

abbrev pub IsNumberOf : IntKind → ℤ → Type 0
IsNumberOf k n = (least k ≤ℤ n) × (n ≤ℤ greatest k)

-- the number below m that differs from n by a multiple of m
unfoldable pub residue : ℕ → ℤ → ℕ
residue m (pos a) = a % m
residue m (negsuc a) = m - 1 - a % m

-- a number below m in two's complement: the upper half stands for the numbers below 0
unfoldable pub as_signed : ℕ → ℕ → ℤ
as_signed m v = if nat_lt v (m / 2) then pos v else negsuc (m - 1 - v)

-- the number of a type that a number below its modulus stands for
unfoldable pub number_of : IntKind → ℕ → ℤ
number_of k v = if is_signed k then as_signed (modulus k) v else pos v

-- the number of a type that the low bits of a word stand for
unfoldable pub value_of : IntKind → ℕ → ℤ
value_of k v = number_of k (v % modulus k)

-- C's conversion to a type: the number of the type that differs from n by a multiple of the type's modulus
unfoldable pub wrapped : IntKind → ℤ → ℤ
wrapped k n = number_of k (residue (modulus k) n)

-- the 64-bit word of a number
unfoldable pub word_of : ℤ → ℕ
word_of n = residue 0x1_0000_0000_0000_0000 n

-- the 64-bit word of the number that the low bits of a word stand for
unfoldable pub extended : IntKind → ℕ → ℕ
extended k v = word_of (value_of k v)
