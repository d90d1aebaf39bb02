-- Texts and characters: bytes and escapes between two quotes.
use Rattle.std.specs.Prelude.{ℕ, ◌+◌, ◌*◌, ◌==◌, if◌then◌else◌, List, [], ◌∷◌, ◌++◌, length, drop, Option, Some, None, option_map, option_and_then, slice_index}
use Rattle.std.specs.Char.{is_ascii_hexdigit}
use Rattle.std.specs.Int.{is_in_range}
use Rattle.c_tokens.specs.declared.quotes.Reading.{Reading}
use Rattle.c_tokens.specs.declared.quotes.Reading.TheVariants.{Plain, Escape, High, Low}
use Rattle.c_tokens.specs.declared.quotes.Effect.{Effect}
use Rattle.c_tokens.specs.declared.quotes.Effect.TheVariants.{Closes, Reads, Gives, Refuses}
use Rattle.c_tokens.specs.declared.quotes.Extent.{Extent}
use Rattle.c_tokens.specs.Numbers.{digit_of}

-- the byte that `\` and a letter, a digit or a mark stand for
abbrev pub escape_of : ℕ → Option ℕ
escape_of b =
    if b == 110 then Some 10
    else (if b == 116 then Some 9
    else (if b == 114 then Some 13
    else (if b == 48 then Some 0
    else (if b == 92 then Some 92
    else (if b == 39 then Some 39
    else (if b == 34 then Some 34
    else None))))))

abbrev pub given : Option ℕ → Effect
given None = Refuses
given (Some b) = Gives b

-- What a byte does: `Plain` is the state between two bytes or escapes, `Escape` the one after a `\`, `High` after `\x` and `Low` after its
-- first digit. A byte from 32 to 126 stands for itself, but for the quote and `\`.
unfoldable pub step : ℕ → Reading → ℕ → Effect
step quote Plain b =
    if b == quote then Closes
    else (if b == 92 then Reads Escape
    else (if is_in_range 32 126 b then Gives b
    else Refuses))
step quote Escape b = if b == 120 then Reads High else given (escape_of b)
step quote High b = if is_ascii_hexdigit b then Reads (Low b) else Refuses
step quote (Low high) b = if is_ascii_hexdigit b then Gives (16 * digit_of high + digit_of b) else Refuses

-- what stands up to a closing quote: the bytes that it stands for, and how many bytes it has with that quote
pub record Quoted : Type 0 where
  pub bytes : List ℕ
  pub size : ℕ

-- one byte more, which stands for these
abbrev pub led_by : List ℕ → Option Quoted → Option Quoted
led_by front = option_map (λ quoted. record { bytes = front ++ quoted.bytes; size = quoted.size + 1 })

abbrev pub after_step : Effect → (Reading → Option Quoted) → Option Quoted
after_step Closes rest = Some (record { bytes = []; size = 1 })
after_step (Reads next) rest = led_by [] (rest next)
after_step (Gives b) rest = led_by (b ∷ []) (rest Plain)
after_step Refuses rest = None

abbrev pub quoted_from : ℕ → Reading → List ℕ → Option Quoted
quoted_from quote reading [] = None
quoted_from quote reading (b ∷ bs) = after_step (step quote reading b) (λ next. quoted_from quote next bs)

-- what stands after an opening quote
unfoldable pub quoted : ℕ → List ℕ → Option Quoted
quoted quote text = quoted_from quote Plain text

-- the bytes of what stands between quotes, if its closing quote is the last of n bytes
abbrev pub whole : ℕ → Option Quoted → Option (List ℕ)
whole n = option_and_then (λ quoted. if quoted.size == n then Some quoted.bytes else None)

-- the bytes that a text stands for, given with its quotes
unfoldable pub text_of : List ℕ → Option (List ℕ)
text_of text = if slice_index text 0 == 34 then whole (length (drop 1 text)) (quoted 34 (drop 1 text)) else None

abbrev pub only_one : List ℕ → Option ℕ
only_one [] = None
only_one (b ∷ []) = Some b
only_one (b ∷ c ∷ bs) = None

abbrev pub single : Option (List ℕ) → Option ℕ
single = option_and_then only_one

-- the byte that a character stands for, given with its quotes
unfoldable pub character_of : List ℕ → Option ℕ
character_of text = if slice_index text 0 == 39 then single (whole (length (drop 1 text)) (quoted 39 (drop 1 text))) else None

abbrev pub extent_of : Quoted → Extent
extent_of quoted = record { size = quoted.size; count = length quoted.bytes }
