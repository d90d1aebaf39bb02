-- The words, numbers and marks of a line. Blanks are free between them.
use Rattle.std.specs.Prelude.{ℕ, ◌+◌, ◌-◌, ◌*◌, ◌^◌, Bool, true, false, ◌&&◌, ◌||◌, not, nat_eq, nat_lt, nat_le, if◌then◌else◌, List, [], ◌∷◌, length, drop, fold, slice_index, Option, Some, None, is_some, option_map, option_and_then, codes, ℤ, pos, negsuc, ◌-ℤ◌}
use Rattle.std.specs.List.{prefix_len, take_while, list_all}
use Rattle.std.specs.Str.{bytes_eq}
use Rattle.std.specs.Char.{is_ascii_alphanumeric, is_ascii_digit, is_ascii_hexdigit}
use Rattle.std.specs.Int.{is_in_range}
use Rattle.obj_file.specs.Names.{is_c_name}
use Rattle.asm_names.specs.Mnemonics.{mnemonic_of}
use Rattle.asm_names.specs.Registers.{register_of, bounds_of, size_of}

-- what is made of a value, or else another
abbrev pub either : {A B : Type 0} → Option A → (A → B) → B → B
either (Some x) made other = made x
either None made other = other

-- ---- words and marks

-- space, tab and CR
abbrev pub is_blank : ℕ → Bool
is_blank b = nat_eq b 32 || nat_eq b 9 || nat_eq b 13

-- letters, digits, `_` and `.`
abbrev pub is_word_byte : ℕ → Bool
is_word_byte b = is_ascii_alphanumeric b || nat_eq b 95 || nat_eq b 46

-- a text without the blanks at its front
unfoldable pub skip : List ℕ → List ℕ
skip text = drop (prefix_len is_blank text) text

-- nothing but blanks is left
unfoldable pub ended : List ℕ → Bool
ended text = nat_eq (length (skip text)) 0

-- the word at the front, which is empty where a mark or nothing stands there, and what is behind it
unfoldable pub word_at : List ℕ → List ℕ
word_at text = take_while is_word_byte (skip text)

unfoldable pub after_word : List ℕ → List ℕ
after_word text = drop (prefix_len is_word_byte (skip text)) (skip text)

-- what is behind a mark, if this mark stands at the front
unfoldable pub mark_at : ℕ → List ℕ → Option (List ℕ)
mark_at m text = if nat_lt 0 (length (skip text)) && nat_eq (slice_index (skip text) 0) m then Some (drop 1 (skip text)) else None

-- ---- numbers

unfoldable pub digit_of : ℕ → ℕ
digit_of b =
    if is_in_range 48 57 b then b - 48
    else (if is_in_range 97 102 b then b - 97 + 10
    else (if is_in_range 65 70 b then b - 65 + 10
    else 0))

-- one digit more, while the value is below 2^64
unfoldable pub with_digit : ℕ → Option ℕ → ℕ → Option ℕ
with_digit base (Some n) d = if nat_lt (n * base + digit_of d) (2 ^ 64) then Some (n * base + digit_of d) else None
with_digit base None d = None

-- the value of digits in a base, if it is below 2^64
abbrev pub value_of : ℕ → List ℕ → Option ℕ
value_of base digits = fold (with_digit base) (Some 0) digits

abbrev pub is_hexadecimal : List ℕ → Bool
is_hexadecimal word = nat_lt 2 (length word) && nat_eq (slice_index word 0) 48 && nat_eq (slice_index word 1) 120 && list_all is_ascii_hexdigit (drop 2 word)

abbrev pub is_decimal : List ℕ → Bool
is_decimal word = nat_lt 0 (length word) && list_all is_ascii_digit word

-- what a word of digits says, if it is below 2^64: decimal digits, or `0x` and hexadecimal ones
unfoldable pub magnitude : List ℕ → Option (Option ℕ)
magnitude word =
    if is_hexadecimal word then Some (value_of 16 (drop 2 word))
    else (if is_decimal word then Some (value_of 10 word)
    else None)

-- a number from -2^63 to 2^64-1; others are none
unfoldable pub number_of : Bool → Option ℕ → Option ℤ
number_of negative (Some n) = if negative then (if nat_le n (2 ^ 63) then Some (pos 0 -ℤ pos n) else None) else Some (pos n)
number_of negative None = None

-- the digits at the front as a number, and what is behind them
unfoldable pub numeral_at : Bool → List ℕ → Option (Option ℤ × List ℕ)
numeral_at negative text = option_map (λ n. (number_of negative n, after_word text)) (magnitude (word_at text))

-- a number with an optional `-`
unfoldable pub number_at : List ℕ → Option (Option ℤ × List ℕ)
number_at text = either (mark_at 45 text) (λ behind. numeral_at true behind) (numeral_at false text)

-- what follows a name: `+n`, `-n` or nothing, which is 0
unfoldable pub addend_at : List ℕ → Option (Option ℤ × List ℕ)
addend_at text =
    either (mark_at 43 text) (λ behind. numeral_at false behind) (either (mark_at 45 text) (λ behind. numeral_at true behind) (Some (Some (pos 0), text)))

-- the value, if nothing is behind it
abbrev pub alone : {A : Type 0} → A × List ℕ → Option A
alone x = if ended x.1 then Some x.0 else None

-- the number that the whole text is
unfoldable pub number_alone : List ℕ → Option (Option ℤ)
number_alone text = option_and_then alone (number_at text)

-- ---- names

-- a word of the language: it names no symbol
unfoldable pub is_reserved : List ℕ → Bool
is_reserved word =
    is_some (mnemonic_of word) || is_some (register_of 8 word) || is_some (register_of 16 word) || is_some (register_of 32 word) || is_some (register_of 64 word)
    || is_some (bounds_of word) || is_some (size_of word) || bytes_eq word (codes "rip") || bytes_eq word (codes "rel") || bytes_eq word (codes "bnd")

-- a name of C of at most 63 bytes that is no word of the language
unfoldable pub is_name : List ℕ → Bool
is_name word = is_c_name word && nat_le (length word) 63 && not (is_reserved word)

-- a local label: `.L` and more letters, digits and `_`
unfoldable pub is_local : List ℕ → Bool
is_local word = nat_eq (slice_index word 0) 46 && nat_eq (slice_index word 1) 76 && is_c_name (drop 1 word) && nat_le (length word) 63
