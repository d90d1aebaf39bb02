-- C's operators on numbers: the whole number that they give, wrapped to the type of the result (C: 6.5, with wrapping in place of undefined results).
use Rattle.std.specs.Prelude.{ℕ, ◌^◌, Bool, ◌==◌, ◌&&◌, ◌||◌, not, true, false, if◌then◌else◌, Option, None, Some, ℤ, pos, negsuc, ◌+ℤ◌, ◌-ℤ◌, ◌*ℤ◌, int_lt, int_le, int_div, int_rem, bit_and, bit_or, bit_xor}
use Rattle.std.specs.Int.{int_shr}
use Rattle.std.specs.Ordering.{int_eq}
use Rattle.std.specs.Option.{option_map}
use Rattle.mx_base.specs.declared.numbers.IntKind.{IntKind}
use Rattle.mx_base.specs.declared.numbers.IntKind.TheVariants.{I64, U64}
use Rattle.mx_base.specs.declared.operators.Arithmetic.{Arithmetic}
use Rattle.mx_base.specs.declared.operators.Arithmetic.TheVariants.{Mul, Div, Rem, Add, Sub, Shl, Shr, BitAnd, BitXor, BitOr}
use Rattle.mx_base.specs.declared.operators.Comparison.{Comparison}
use Rattle.mx_base.specs.declared.operators.Comparison.TheVariants.{Less, LessOrEqual, Greater, GreaterOrEqual, Equal, NotEqual}
use Rattle.mx_base.specs.Numbers.{residue, value_of, wrapped, word_of}

-- a shift count is taken modulo 64 for a type of 64 bits, and else modulo 32
abbrev pub count_modulus : IntKind → ℕ
count_modulus I64 = 64
count_modulus U64 = 64
count_modulus _ = 32

abbrev pub least_long : ℤ
least_long = negsuc 0x7fff_ffff_ffff_ffff

abbrev pub is_long : IntKind → Bool
is_long I64 = true
is_long _ = false

-- no quotient: the divisor is 0, or the quotient of two numbers of `long` is no number of it
abbrev pub has_no_quotient : IntKind → ℤ → ℤ → Bool
has_no_quotient k a b = int_eq b (pos 0) || is_long k && int_eq a least_long && int_eq b (negsuc 0)

-- the whole number that an operator gives, before it is wrapped; None is the stop of a division
abbrev pub whole : Arithmetic → IntKind → ℤ → ℤ → Option ℤ
whole Mul k a b = Some (a *ℤ b)
whole Div k a b = if has_no_quotient k a b then None else Some (int_div a b)
whole Rem k a b = if has_no_quotient k a b then None else Some (int_rem a b)
whole Add k a b = Some (a +ℤ b)
whole Sub k a b = Some (a -ℤ b)
whole Shl k a b = Some (a *ℤ pos (2 ^ residue (count_modulus k) b))
whole Shr k a b = Some (int_shr a (residue (count_modulus k) b))
whole BitAnd k a b = Some (pos (bit_and (word_of a) (word_of b)))
whole BitXor k a b = Some (pos (bit_xor (word_of a) (word_of b)))
whole BitOr k a b = Some (pos (bit_or (word_of a) (word_of b)))

-- an operator on two numbers of a type; the right operand of a shift may have any type, and k is that of the left one
unfoldable pub arithmetic : Arithmetic → IntKind → ℤ → ℤ → Option ℤ
arithmetic op k a b = option_map (wrapped k) (whole op k a b)

unfoldable pub compares : Comparison → ℤ → ℤ → Bool
compares Less a b = int_lt a b
compares LessOrEqual a b = int_le a b
compares Greater a b = int_lt b a
compares GreaterOrEqual a b = int_le b a
compares Equal a b = int_eq a b
compares NotEqual a b = not (int_eq a b)

-- the same on words, of which only the type's low bits count
unfoldable pub word_arithmetic : Arithmetic → IntKind → ℕ → ℕ → Option ℕ
word_arithmetic op k a b = option_map word_of (arithmetic op k (value_of k a) (value_of k b))

unfoldable pub word_compares : Comparison → IntKind → ℕ → ℕ → ℕ
word_compares op k a b = if compares op (value_of k a) (value_of k b) then 1 else 0

-- C's three operators on one number: its negative, its bits inverted, and whether it is 0
unfoldable pub negated : IntKind → ℤ → ℤ
negated k a = wrapped k (pos 0 -ℤ a)

unfoldable pub inverted : IntKind → ℤ → ℤ
inverted k a = wrapped k (negsuc 0 -ℤ a)

unfoldable pub is_zero : ℤ → Bool
is_zero a = int_eq a (pos 0)

-- the operators between two operands by their places, from 0, in the order in which they bind: * / % + - << >> < <= > >= == != & ^ | && ||
unfoldable pub arithmetic_at : ℕ → Option Arithmetic
arithmetic_at n = if n == 0 then Some Mul else if n == 1 then Some Div else if n == 2 then Some Rem else if n == 3 then Some Add
    else if n == 4 then Some Sub else if n == 5 then Some Shl else if n == 6 then Some Shr else if n == 13 then Some BitAnd
    else if n == 14 then Some BitXor else if n == 15 then Some BitOr else None

unfoldable pub comparison_at : ℕ → Option Comparison
comparison_at n = if n == 7 then Some Less else if n == 8 then Some LessOrEqual else if n == 9 then Some Greater else if n == 10 then Some GreaterOrEqual
    else if n == 11 then Some Equal else if n == 12 then Some NotEqual else None
