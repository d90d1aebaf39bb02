-- Code as lines of text.
use Rattle.std.specs.Prelude.{◌≡◌, ℕ, ◌<◌, ◌/◌, ◌%◌, length, false, List, [], ◌∷◌, ◌++◌, drop, slice_index, codes}
use Rattle.std.specs.Fmt.{digit_glyph}
use Rattle.x86_forms.specs.declared.instr.Instr.{Instr}
use Rattle.x86_decode.specs.Reading.{BeginsWith}
use Rattle.disasm.specs.Written.{text_of}

-- a byte, in two lower-case hexadecimal digits
abbrev pub byte_text : ℕ → List ℕ
byte_text b = codes ".byte 0x" ++ digit_glyph false (b / 16) ∷ digit_glyph false (b % 16) ∷ []

-- no instruction stands at the front of the bytes
abbrev pub BeginsNone : List ℕ → Type 0
BeginsNone bytes = (i : Instr) (n : ℕ) → BeginsWith bytes i n → ⊥

-- the text is the line of the first n bytes: of the instruction that they spell, or of the first byte where none begins
pub data LineOf (bytes text : List ℕ) (n : ℕ) : Type 0 where
  Instruction : (i : Instr) → BeginsWith bytes i n → text ≡ text_of i → LineOf bytes text n
  Byte : 0 < length bytes → BeginsNone bytes → text ≡ byte_text (slice_index bytes 0) → n ≡ 1 → LineOf bytes text n

-- the text has the line of the code's front, and then the lines of the rest
pub data Lists : List ℕ → List ℕ → Type 0 where
  Empty : Lists [] []
  Line : (code line rest : List ℕ) (n : ℕ) → LineOf code line n → Lists (drop n code) rest → Lists code (line ++ codes "\n" ++ rest)
