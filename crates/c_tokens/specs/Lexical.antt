-- What the tokens of the language are, each by its bytes alone, and which of them is the longest.
use Rattle.std.specs.Prelude.{◌≡◌, ◌≢◌, ℕ, ◌+◌, ◌-◌, ◌*◌, ◌<◌, ◌≤◌, Bool, true, ◌||◌, ◌&&◌, ◌==◌, List, [], ◌∷◌, ◌++◌, length, take, drop, Option, Some, None, IsSome, slice_index}
use Rattle.std.specs.List.{list_all}
use Rattle.std.specs.Char.{is_ascii_alphabetic, is_ascii_hexdigit}
use Rattle.std.specs.Int.{is_in_range}
use Rattle.c_tokens.specs.declared.class.Class.{Class}
use Rattle.c_tokens.specs.declared.class.Class.TheVariants as c
use Rattle.c_tokens.specs.declared.class.TokenKind.{TokenKind}
use Rattle.c_tokens.specs.declared.class.TokenKind.TheVariants.{Name, Word, Number, Character, Text, Mark}
use Rattle.c_tokens.specs.declared.token.Token.{Token}
use Rattle.c_tokens.specs.Numbers.{digit_of, number_of}
use Rattle.c_tokens.specs.Marks.{mark_of_one, mark_of_two, mark_of_three}
use Rattle.c_tokens.specs.Pieces.{is_word_byte}
use Rattle.c_tokens.specs.Quotes.{escape_of}
use Rattle.c_tokens.specs.Words.{word_of}

-- a letter or `_`, and then letters, digits and `_`
abbrev pub begins_name : ℕ → Bool
begins_name b = is_ascii_alphabetic b || b == 95

abbrev pub is_name : List ℕ → Bool
is_name text = begins_name (slice_index text 0) && list_all is_word_byte text

-- a name of at most 63 bytes that is no reserved word
pub record IsName (text : List ℕ) : Type 0 where
  pub is : is_name text ≡ true
  pub short : length text ≤ 63
  pub free : word_of text ≡ None

-- the mark that these bytes are
abbrev pub mark_of : List ℕ → Option Class
mark_of [] = None
mark_of (a ∷ []) = mark_of_one a
mark_of (a ∷ b ∷ []) = mark_of_two a b
mark_of (a ∷ b ∷ d ∷ []) = mark_of_three a b d
mark_of (a ∷ b ∷ d ∷ e ∷ rest) = None

-- what stands between two quotes, and the bytes that it stands for
pub data Spells (quote : ℕ) : List ℕ → List ℕ → Type 0 where
  nothing : Spells quote [] []
  itself : {b : ℕ} {source bytes : List ℕ} → is_in_range 32 126 b ≡ true → b ≢ quote → b ≢ 92 → Spells quote source bytes → Spells quote (b ∷ source) (b ∷ bytes)
  escape : {letter b : ℕ} {source bytes : List ℕ} → escape_of letter ≡ Some b → Spells quote source bytes → Spells quote (92 ∷ letter ∷ source) (b ∷ bytes)
  hexadecimal : {high low : ℕ} {source bytes : List ℕ} → is_ascii_hexdigit high ≡ true → is_ascii_hexdigit low ≡ true → Spells quote source bytes → Spells quote (92 ∷ 120 ∷ high ∷ low ∷ source) ((16 * digit_of high + digit_of low) ∷ bytes)

pub record IsQuoted (quote : ℕ) (text bytes : List ℕ) : Type 0 where
  pub source : List ℕ
  pub is : text ≡ quote ∷ source ++ quote ∷ []
  pub spells : Spells quote source bytes

-- these bytes are a token of this kind and class
abbrev pub IsToken : TokenKind → Class → List ℕ → Type 0
IsToken Name class text = (class ≡ c.Name) × IsName text
IsToken Word class text = word_of text ≡ Some class
IsToken Number class text = (class ≡ c.Number) × IsSome (number_of text)
IsToken Character class text = (class ≡ c.Character) × ((b : ℕ) × IsQuoted 39 text (b ∷ []))
IsToken Text class text = (class ≡ c.Text) × ((bytes : List ℕ) × IsQuoted 34 text bytes)
IsToken Mark class text = mark_of text ≡ Some class

-- the first n bytes of z are a token of this kind and class, and no longer front of z is a token of any kind
pub record IsLongest (z : List ℕ) (kind : TokenKind) (class : Class) (n : ℕ) : Type 0 where
  pub some : 0 < n
  pub within : n ≤ length z
  pub is : IsToken kind class (take n z)
  pub longest : (m : ℕ) (k : TokenKind) (d : Class) → n < m → m ≤ length z → IsToken k d (take m z) → ⊥

-- a token of these bytes is the longest that begins where it does
abbrev pub IsLongestOf : List ℕ → Token → Type 0
IsLongestOf bytes t = IsLongest (drop t.from bytes) t.kind t.class (t.to - t.from)

-- no front of z is a token
abbrev pub BeginsNone : List ℕ → Type 0
BeginsNone z = (m : ℕ) (kind : TokenKind) (class : Class) → m ≤ length z → IsToken kind class (take m z) → ⊥
