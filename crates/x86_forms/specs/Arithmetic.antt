-- What the instructions on numbers compute, and the flags that they leave (Intel SDM, volume 1, EFLAGS; volume 2, the page of each instruction).
-- A number of w bits is a number below 2^w; in two's complement it also stands for a signed one.
use Rattle.std.specs.Prelude.{ℕ, ◌+◌, ◌-◌, ◌*◌, ◌/◌, ◌%◌, ◌^◌, Bool, true, false, nat_lt, nat_le, ◌==◌, ◌&&◌, ◌||◌, not, if◌then◌else◌, Option, None, Some, ℤ, pos, ◌+ℤ◌, ◌-ℤ◌, ◌*ℤ◌, int_lt, int_le, int_div, int_rem, bit_and, bit_or, bit_xor}
use Rattle.std.specs.Int.{int_shr}
use Rattle.mx_base.specs.Numbers.{residue, as_signed}

-- carry, zero, sign and overflow
pub record Flags : Type 0 where
  pub cf : Bool
  pub zf : Bool
  pub sf : Bool
  pub of : Bool

abbrev pub no_flags : Flags
no_flags = record { cf = false; zf = false; sf = false; of = false }

-- ---- numbers of w bits

-- the low w bits
abbrev pub low : ℕ → ℕ → ℕ
low w a = a % 2 ^ w

-- the signed number that w bits stand for, and the w bits of a signed number
abbrev pub signed : ℕ → ℕ → ℤ
signed w a = as_signed (2 ^ w) a

abbrev pub bits_of : ℕ → ℤ → ℕ
bits_of w z = residue (2 ^ w) z

-- the top bit is set
unfoldable pub is_negative : ℕ → ℕ → Bool
is_negative w a = nat_le (2 ^ (w - 1)) a

-- w bits hold the signed number
unfoldable pub holds_signed : ℕ → ℤ → Bool
holds_signed w z = int_le (pos 0 -ℤ pos (2 ^ (w - 1))) z && int_lt z (pos (2 ^ (w - 1)))

-- bit k is 1
unfoldable pub has_bit : ℕ → ℕ → Bool
has_bit k a = a / 2 ^ k % 2 == 1

abbrev pub differ : Bool → Bool → Bool
differ a b = if a then not b else b

-- ---- the operations

pub data Operation : Type 0 where
  Add : Operation
  Or : Operation
  And : Operation
  Sub : Operation
  Xor : Operation
  Cmp : Operation
  Test : Operation
  Imul : Operation
  Not : Operation
  Neg : Operation
  Shl : Operation
  Shr : Operation
  Sar : Operation

-- `cmp` and `test` leave flags alone
abbrev pub writes_result : Operation → Bool
writes_result Cmp = false
writes_result Test = false
writes_result op = true

-- a shift's count is taken modulo the width, which is 32 or 64
abbrev pub count_of : ℕ → ℕ → ℕ
count_of w b = b % w

abbrev pub difference : ℕ → ℕ → ℕ → ℕ
difference w a b = (a + (2 ^ w - b)) % 2 ^ w

-- what an operation of w bits makes of a and b, numbers of w bits; `not` and `neg` use a alone, and for a shift b is the count before it is taken modulo the width
unfoldable pub result_of : Operation → ℕ → ℕ → ℕ → ℕ
result_of Add w a b = (a + b) % 2 ^ w
result_of Or w a b = bit_or a b
result_of And w a b = bit_and a b
result_of Sub w a b = difference w a b
result_of Xor w a b = bit_xor a b
result_of Cmp w a b = difference w a b
result_of Test w a b = bit_and a b
result_of Imul w a b = bits_of w (signed w a *ℤ signed w b)
result_of Not w a b = 2 ^ w - 1 - a
result_of Neg w a b = difference w 0 a
result_of Shl w a b = (a * 2 ^ count_of w b) % 2 ^ w
result_of Shr w a b = a / 2 ^ count_of w b
result_of Sar w a b = bits_of w (int_shr (signed w a) (count_of w b))

-- zero and sign of a result
abbrev pub flags_of : ℕ → ℕ → Bool → Bool → Flags
flags_of w r carry overflow = record { cf = carry; zf = r == 0; sf = is_negative w r; of = overflow }

-- a difference borrows where it is below 0, and overflows where the signed one is no number of w bits
unfoldable pub difference_flags : ℕ → ℕ → ℕ → Flags
difference_flags w a b = flags_of w (difference w a b) (nat_lt a b) (not (holds_signed w (signed w a -ℤ signed w b)))

-- the last bit that a shift by c, at least 1, moves out
unfoldable pub moved_out : Operation → ℕ → ℕ → ℕ → Bool
moved_out Shl w a c = has_bit (w - c) a
moved_out op w a c = has_bit (c - 1) a

-- the overflow flag after a shift by c: it has a meaning for 1 alone, and is cleared for other counts
unfoldable pub shift_overflow : Operation → ℕ → ℕ → ℕ → Bool
shift_overflow Shl w a c = c == 1 && differ (is_negative w (result_of Shl w a c)) (moved_out Shl w a c)
shift_overflow Shr w a c = c == 1 && is_negative w a
shift_overflow op w a c = false

abbrev pub shift_flags : Operation → ℕ → ℕ → ℕ → Flags → Flags
shift_flags op w a c before = if c == 0 then before else flags_of w (result_of op w a c) (moved_out op w a c) (shift_overflow op w a c)

-- the flags after an operation; a shift by 0 and `not` change none, and `imul` clears zero and sign, which the manual leaves undefined
unfoldable pub flags_after : Operation → ℕ → ℕ → ℕ → Flags → Flags
flags_after Add w a b before = flags_of w ((a + b) % 2 ^ w) (nat_le (2 ^ w) (a + b)) (not (holds_signed w (signed w a +ℤ signed w b)))
flags_after Or w a b before = flags_of w (bit_or a b) false false
flags_after And w a b before = flags_of w (bit_and a b) false false
flags_after Sub w a b before = difference_flags w a b
flags_after Xor w a b before = flags_of w (bit_xor a b) false false
flags_after Cmp w a b before = difference_flags w a b
flags_after Test w a b before = flags_of w (bit_and a b) false false
flags_after Imul w a b before =
    let overflows : Bool = not (holds_signed w (signed w a *ℤ signed w b)) in record { cf = overflows; zf = false; sf = false; of = overflows }
flags_after Not w a b before = before
flags_after Neg w a b before = difference_flags w 0 a
flags_after Shl w a b before = shift_flags Shl w a (count_of w b) before
flags_after Shr w a b before = shift_flags Shr w a (count_of w b) before
flags_after Sar w a b before = shift_flags Sar w a (count_of w b) before

-- ---- division

-- the unsigned quotient and rest of the number of 2w bits whose upper half is hi: None where the divisor is 0 or w bits hold no such quotient
unfoldable pub divided : ℕ → ℕ → ℕ → ℕ → Option (ℕ × ℕ)
divided w hi lo by =
    if by == 0 then None
    else if nat_lt ((hi * 2 ^ w + lo) / by) (2 ^ w) then Some ((hi * 2 ^ w + lo) / by, (hi * 2 ^ w + lo) % by) else None

-- the signed ones; the quotient is cut towards 0, and the rest has the sign of what is divided
unfoldable pub divided_signed : ℕ → ℕ → ℕ → ℕ → Option (ℕ × ℕ)
divided_signed w hi lo by =
    if by == 0 then None
    else if holds_signed w (int_div (signed (2 * w) (hi * 2 ^ w + lo)) (signed w by))
    then Some (bits_of w (int_div (signed (2 * w) (hi * 2 ^ w + lo)) (signed w by)), bits_of w (int_rem (signed (2 * w) (hi * 2 ^ w + lo)) (signed w by)))
    else None

-- ---- conditions (SDM, volume 2, Jcc and SETcc)

-- the condition of a code: o 0, no 1, b 2, ae 3, e 4, ne 5, be 6, a 7, s 8, ns 9, l 12, ge 13, le 14, g 15
unfoldable pub holds : ℕ → Flags → Bool
holds code f =
    if code == 0 then f.of else if code == 1 then not f.of
    else if code == 2 then f.cf else if code == 3 then not f.cf
    else if code == 4 then f.zf else if code == 5 then not f.zf
    else if code == 6 then f.cf || f.zf else if code == 7 then not (f.cf || f.zf)
    else if code == 8 then f.sf else if code == 9 then not f.sf
    else if code == 12 then differ f.sf f.of else if code == 13 then not (differ f.sf f.of)
    else if code == 14 then f.zf || differ f.sf f.of else not (f.zf || differ f.sf f.of)
