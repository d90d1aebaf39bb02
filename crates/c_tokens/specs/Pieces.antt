-- What stands first in a text: a gap between tokens, a token, or what is none.
use Rattle.std.specs.Prelude.{ℕ, ◌+◌, ◌<◌, ◌≤◌, Bool, ◌||◌, ◌&&◌, not, ◌==◌, nat_lt, if◌then◌else◌, List, [], ◌∷◌, length, take, drop, Option, Some, None, option_map, is_some, slice_index}
use Rattle.std.specs.List.{prefix_len}
use Rattle.std.specs.Char.{is_ascii_digit, is_ascii_alphanumeric}
use Rattle.c_tokens.specs.declared.class.Class.{Class}
use Rattle.c_tokens.specs.declared.class.Class.TheVariants as c
use Rattle.c_tokens.specs.declared.class.TokenKind.TheVariants as kind
use Rattle.c_tokens.specs.declared.fault.Flaw.TheVariants.{BadByte, BadNumber, LongName, OpenText}
use Rattle.c_tokens.specs.declared.piece.Piece.{Piece}
use Rattle.c_tokens.specs.declared.piece.Piece.TheVariants.{Gap, Lexeme, Bad}
use Rattle.c_tokens.specs.Places.{is_line_feed}
use Rattle.c_tokens.specs.Words.{word_of}
use Rattle.c_tokens.specs.Marks.{mark_of_one, mark_of_two, mark_of_three}
use Rattle.c_tokens.specs.Numbers.{number_of}
use Rattle.c_tokens.specs.Quotes.{Quoted, quoted}

-- space, tab, CR and LF
abbrev pub is_blank : ℕ → Bool
is_blank b = b == 32 || b == 9 || b == 13 || b == 10

-- a letter, a digit or `_`
abbrev pub is_word_byte : ℕ → Bool
is_word_byte b = is_ascii_alphanumeric b || b == 95

-- a run of letters, digits and `_`: a number if it begins with a digit, else a word or a name
abbrev pub numeral : ℕ → Bool → Piece
numeral n is_number = if is_number then Lexeme kind.Number c.Number n else Bad BadNumber

abbrev pub named : ℕ → Option Class → Piece
named n None = if nat_lt 63 n then Bad LongName else Lexeme kind.Name c.Name n
named n (Some word) = Lexeme kind.Word word n

abbrev pub run : List ℕ → Piece
run text = if is_ascii_digit (slice_index text 0) then numeral (length text) (is_some (number_of text)) else named (length text) (word_of text)

-- how many bytes there are up to the end of the first `*/`
unfoldable pub comment_len : List ℕ → Option ℕ
comment_len [] = None
comment_len (b ∷ bs) = if b == 42 && slice_index bs 0 == 47 then Some 2 else option_map (λ n. n + 1) (comment_len bs)

abbrev pub comment : Option ℕ → Piece
comment None = Bad OpenText
comment (Some n) = Gap (n + 2)

abbrev pub character : Option Quoted → Piece
character None = Bad OpenText
character (Some q) = if length q.bytes == 1 then Lexeme kind.Character c.Character (q.size + 1) else Bad OpenText

abbrev pub text : Option Quoted → Piece
text None = Bad OpenText
text (Some q) = Lexeme kind.Text c.Text (q.size + 1)

-- the longest mark
abbrev pub or_shorter : ℕ → Option Class → Piece → Piece
or_shorter n None shorter = shorter
or_shorter n (Some mark) shorter = Lexeme kind.Mark mark n

unfoldable pub mark : List ℕ → Piece
mark z =
    or_shorter 3 (mark_of_three (slice_index z 0) (slice_index z 1) (slice_index z 2))
    (or_shorter 2 (mark_of_two (slice_index z 0) (slice_index z 1))
    (or_shorter 1 (mark_of_one (slice_index z 0))
    (Bad BadByte)))

-- what begins with `/`: a comment to the end of the line, a comment to `*/`, or a mark
abbrev pub slash : List ℕ → Piece
slash z =
    if slice_index z 1 == 47 then Gap (prefix_len (λ b. not (is_line_feed b)) z)
    else (if slice_index z 1 == 42 then comment (comment_len (drop 2 z))
    else mark z)

unfoldable pub piece : List ℕ → Piece
piece z =
    if is_blank (slice_index z 0) then Gap (prefix_len is_blank z)
    else (if is_word_byte (slice_index z 0) then run (take (prefix_len is_word_byte z) z)
    else (if slice_index z 0 == 47 then slash z
    else (if slice_index z 0 == 39 then character (quoted 39 (drop 1 z))
    else (if slice_index z 0 == 34 then text (quoted 34 (drop 1 z))
    else mark z))))

-- a piece has a byte at least, and lies in the text
abbrev pub LiesIn : Piece → List ℕ → Type 0
LiesIn (Gap n) z = (0 < n) × (n ≤ length z)
LiesIn (Lexeme kind class n) z = (0 < n) × (n ≤ length z)
LiesIn (Bad flaw) z = Unit {0}
