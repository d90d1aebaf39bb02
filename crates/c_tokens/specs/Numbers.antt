-- Numbers: decimal digits, or `0x` and hexadecimal ones, then at most one `u` or `U` and at most one `l` or `L`, in either order.
use Rattle.std.specs.Prelude.{ℕ, ◌+◌, ◌-◌, ◌*◌, ◌^◌, Bool, true, false, ◌||◌, ◌&&◌, not, ◌==◌, nat_lt, if◌then◌else◌, List, [], ◌∷◌, length, drop, fold, find, Option, Some, None, option_map, option_and_then, slice_index}
use Rattle.std.specs.List.{prefix_len, take_while}
use Rattle.std.specs.Char.{is_ascii_digit, is_ascii_hexdigit}
use Rattle.std.specs.Int.{is_in_range}
use Rattle.mx_base.specs.declared.numbers.IntKind.{IntKind}
use Rattle.mx_base.specs.declared.numbers.IntKind.TheVariants.{I8, U8, I16, U16, I32, U32, I64, U64}
use Rattle.c_tokens.specs.declared.numbers.Number.{Number}
use Rattle.c_tokens.specs.declared.numbers.Suffix.{Suffix}

-- the value of a hexadecimal digit
unfoldable pub digit_of : ℕ → ℕ
digit_of b =
    if is_in_range 48 57 b then b - 48
    else (if is_in_range 97 102 b then b - 97 + 10
    else (if is_in_range 65 70 b then b - 65 + 10
    else 0))

-- the value of digits in a base
abbrev pub value_of : ℕ → List ℕ → ℕ
value_of base = fold (λ n d. n * base + digit_of d) 0

abbrev pub is_u : ℕ → Bool
is_u b = b == 117 || b == 85

abbrev pub is_l : ℕ → Bool
is_l b = b == 108 || b == 76

unfoldable pub suffix_of : List ℕ → Option Suffix
suffix_of [] = Some (record { unsigned = false; long = false })
suffix_of (a ∷ []) =
    if is_u a then Some (record { unsigned = true; long = false })
    else (if is_l a then Some (record { unsigned = false; long = true })
    else None)
suffix_of (a ∷ b ∷ []) = if (is_u a && is_l b) || (is_l a && is_u b) then Some (record { unsigned = true; long = true }) else None
suffix_of (a ∷ b ∷ c ∷ rest) = None

-- the types that a number may have, by whether it is hexadecimal, has a `u` and has an `l`; the first that holds it is its type
abbrev pub kinds_of : Bool → Bool → Bool → List IntKind
kinds_of false false false = I32 ∷ I64 ∷ []
kinds_of true false false = I32 ∷ U32 ∷ I64 ∷ U64 ∷ []
kinds_of false false true = I64 ∷ []
kinds_of true false true = I64 ∷ U64 ∷ []
kinds_of false true false = U32 ∷ U64 ∷ []
kinds_of true true false = U32 ∷ U64 ∷ []
kinds_of false true true = U64 ∷ []
kinds_of true true true = U64 ∷ []

-- one more than the largest number of a type
abbrev pub limit_of : IntKind → ℕ
limit_of I8 = 2 ^ 7
limit_of U8 = 2 ^ 8
limit_of I16 = 2 ^ 15
limit_of U16 = 2 ^ 16
limit_of I32 = 2 ^ 31
limit_of U32 = 2 ^ 32
limit_of I64 = 2 ^ 63
limit_of U64 = 2 ^ 64

unfoldable pub kind_for : ℕ → Bool → Suffix → Option IntKind
kind_for value hexadecimal suffix = find (λ kind. nat_lt value (limit_of kind)) (kinds_of hexadecimal suffix.unsigned suffix.long)

abbrev pub is_hexadecimal : List ℕ → Bool
is_hexadecimal text = slice_index text 0 == 48 && slice_index text 1 == 120

abbrev pub base_of : Bool → ℕ
base_of hexadecimal = if hexadecimal then 16 else 10

-- a number's digits, and what stands after them
unfoldable pub digits_of : List ℕ → List ℕ
digits_of text = if is_hexadecimal text then take_while is_ascii_hexdigit (drop 2 text) else take_while is_ascii_digit text

unfoldable pub ending_of : List ℕ → List ℕ
ending_of text =
    if is_hexadecimal text then drop (prefix_len is_ascii_hexdigit (drop 2 text)) (drop 2 text)
    else drop (prefix_len is_ascii_digit text) text

-- there are digits, and a decimal number that begins with 0 is 0 alone
unfoldable pub has_digits : Bool → List ℕ → Bool
has_digits hexadecimal digits = nat_lt 0 (length digits) && (hexadecimal || nat_lt (length digits) 2 || not (slice_index digits 0 == 48))

abbrev pub typed : ℕ → Bool → Suffix → Option Number
typed value hexadecimal suffix = option_map (λ kind. record { value = value; kind = kind }) (kind_for value hexadecimal suffix)

-- the number that these bytes are, if they are one and a type holds it
unfoldable pub number_of : List ℕ → Option Number
number_of text =
    if has_digits (is_hexadecimal text) (digits_of text)
    then option_and_then (typed (value_of (base_of (is_hexadecimal text)) (digits_of text)) (is_hexadecimal text)) (suffix_of (ending_of text))
    else None
