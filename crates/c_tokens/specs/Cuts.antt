-- How a text is cut: white space, comments and tokens stand one after another, up to its end or to the first piece that is no token.
use Rattle.std.specs.Prelude.{◌≡◌, ℕ, ◌+◌, ◌-◌, ◌<◌, ◌≤◌, Bool, true, false, ◌||◌, ◌&&◌, not, ◌==◌, List, [], ◌∷◌, ◌++◌, length, take, drop, None, slice_index}
use Rattle.std.specs.List.{list_all}
use Rattle.std.specs.Char.{is_ascii_digit}
use Rattle.mx_base.specs.declared.places.Place.{Place}
use Rattle.c_tokens.specs.declared.token.Token.{Token}
use Rattle.c_tokens.specs.Numbers.{number_of}
use Rattle.c_tokens.specs.Places.{is_line_feed, place_after}
use Rattle.c_tokens.specs.Pieces.{is_blank, is_word_byte}
use Rattle.c_tokens.specs.Lexical.{IsLongestOf, BeginsNone}

-- ---- white space and comments

-- `*/` stands somewhere in these bytes
abbrev pub has_end : List ℕ → Bool
has_end [] = false
has_end (b ∷ bs) = (b == 42 && slice_index bs 0 == 47) || has_end bs

-- a line feed stands first, or nothing
abbrev pub ends_line : List ℕ → Bool
ends_line [] = true
ends_line (b ∷ bs) = is_line_feed b

-- `//` or `/*` stands first
abbrev pub begins_comment : List ℕ → Bool
begins_comment z = slice_index z 0 == 47 && (slice_index z 1 == 47 || slice_index z 1 == 42)

-- the first n bytes of z are white space, a comment from `//` to the end of its line, or one from `/*` to the first `*/`
pub data IsSpace (z : List ℕ) (n : ℕ) : Type 0 where
  white : 0 < n → n ≤ length z → list_all is_blank (take n z) ≡ true → IsSpace z n
  line : (inside rest : List ℕ) → z ≡ 47 ∷ 47 ∷ inside ++ rest → list_all (λ b. not (is_line_feed b)) inside ≡ true → ends_line rest ≡ true → n ≡ 2 + length inside → IsSpace z n
  comment : (inside rest : List ℕ) → z ≡ 47 ∷ 42 ∷ inside ++ 42 ∷ 47 ∷ rest → has_end inside ≡ false → n ≡ 4 + length inside → IsSpace z n

-- ---- tokens in their places

-- A token stands after the first `from` bytes of a text: it is the longest token there, no comment begins there, and a letter, digit or `_` at
-- its front is followed by all that stand beside it.
pub record StandsAt (file : ℕ) (bytes : List ℕ) (from : ℕ) (t : Token) : Type 0 where
  pub from_is : t.from ≡ from
  pub some : t.from < t.to
  pub within : t.to ≤ length bytes
  pub place_is : t.place ≡ place_after file (take from bytes)
  pub longest : IsLongestOf bytes t
  pub bare : begins_comment (drop from bytes) ≡ false
  pub whole : is_word_byte (slice_index (drop from bytes) 0) ≡ true → is_word_byte (slice_index (drop from bytes) (t.to - from)) ≡ false

-- The bytes of a text after `from`, up to `to`, are cut into these tokens, in this order; all that is between them, before them and after
-- them is white space and comments.
pub data Cut (file : ℕ) (bytes : List ℕ) (to : ℕ) : ℕ → List Token → Type 0 where
  ends : Cut file bytes to to []
  space : (from n : ℕ) (found : List Token) → IsSpace (drop from bytes) n → Cut file bytes to (from + n) found → Cut file bytes to from found
  token : (from : ℕ) (t : Token) (found : List Token) → StandsAt file bytes from t → Cut file bytes to t.to found → Cut file bytes to from (t ∷ found)

-- ---- what is no token

-- A text is cut up to a byte at this place, and there stands what is so flawed.
pub record FirstBad (IsFlawed : List ℕ → Type 0) (file : ℕ) (bytes : List ℕ) (place : Place) : Type 0 where
  pub from : ℕ
  pub found : List Token
  pub cut : Cut file bytes from 0 found
  pub within : from < length bytes
  pub place_is : place ≡ place_after file (take from bytes)
  pub flawed : IsFlawed (drop from bytes)

-- all the letters, digits and `_` at the front of z, up to the first other byte
pub record IsRun (z run : List ℕ) : Type 0 where
  pub rest : List ℕ
  pub is : z ≡ run ++ rest
  pub some : is_word_byte (slice_index z 0) ≡ true
  pub all : list_all is_word_byte run ≡ true
  pub ends : is_word_byte (slice_index rest 0) ≡ false

-- a run that begins with a digit, and is no number or one that no type holds
pub record IsBadNumber (z : List ℕ) : Type 0 where
  pub run : List ℕ
  pub is : IsRun z run
  pub digit : is_ascii_digit (slice_index run 0) ≡ true
  pub none : number_of run ≡ None

-- a run that begins with a letter or `_`, of more than 63 bytes
pub record IsLongName (z : List ℕ) : Type 0 where
  pub run : List ℕ
  pub is : IsRun z run
  pub letter : is_ascii_digit (slice_index run 0) ≡ false
  pub long : 63 < length run

-- a quote that begins no text and no character, or a `/*` after which no `*/` stands
pub data IsOpenText (z : List ℕ) : Type 0 where
  text : slice_index z 0 ≡ 34 → BeginsNone z → IsOpenText z
  character : slice_index z 0 ≡ 39 → BeginsNone z → IsOpenText z
  comment : (rest : List ℕ) → z ≡ 47 ∷ 42 ∷ rest → has_end rest ≡ false → IsOpenText z

-- a byte that begins no token, and is no white space, no quote, and no letter, digit or `_`
pub record IsBadByte (z : List ℕ) : Type 0 where
  pub blank : is_blank (slice_index z 0) ≡ false
  pub quote : (slice_index z 0 == 34 || slice_index z 0 == 39) ≡ false
  pub word : is_word_byte (slice_index z 0) ≡ false
  pub none : BeginsNone z
