-- The tokens of a text, or the fault of the first piece that is none.
use Rattle.std.specs.Prelude.{◌≡◌, ℕ, zero, suc, ◌+◌, ◌-◌, List, [], ◌∷◌, ◌++◌, length, Result, Ok, Err}
use Rattle.c_tokens.specs.declared.token.Token.{Token}
use Rattle.c_tokens.specs.declared.fault.TokenFault.{TokenFault}
use Rattle.c_tokens.specs.declared.fault.TokenFault.TheVariants.{BadByte, BadNumber, LongName, OpenText, OutOfMemory}
use Rattle.c_tokens.specs.declared.piece.Piece.{Piece}
use Rattle.c_tokens.specs.declared.piece.Piece.TheVariants.{Gap, Lexeme, Bad}
use Rattle.c_tokens.specs.Faults.{fault_at}
use Rattle.c_tokens.specs.Places.{place_after}
use Rattle.c_tokens.specs.Pieces.{piece}

abbrev pub Tokens : Type 0
Tokens = Result (List Token) TokenFault

abbrev pub led_by : List Token → Tokens → Tokens
led_by front (Ok back) = Ok (front ++ back)
led_by front (Err fault) = Err fault

-- What a piece gives that stands after these bytes; `rest` is what comes after its first byte, by how many bytes of it are left then.
abbrev pub with_piece : Piece → ℕ → List ℕ → (ℕ → Tokens) → Tokens
with_piece (Gap n) file before rest = rest (n - 1)
with_piece (Lexeme kind class n) file before rest =
    led_by (record { kind = kind; class = class; place = place_after file before; from = length before; to = length before + n } ∷ []) (rest (n - 1))
with_piece (Bad flaw) file before rest = Err (fault_at flaw (place_after file before))

-- The tokens of what stands after these bytes. `left` counts the bytes that are left of a piece that began before; where none is, the next piece begins.
abbrev pub tokens_after : ℕ → List ℕ → ℕ → List ℕ → Tokens
tokens_after file before left [] = Ok []
tokens_after file before (suc left) (b ∷ bs) = tokens_after file (before ++ b ∷ []) left bs
tokens_after file before zero (b ∷ bs) = with_piece (piece (b ∷ bs)) file before (λ left. tokens_after file (before ++ b ∷ []) left bs)

unfoldable pub tokens_of : ℕ → List ℕ → Tokens
tokens_of file bytes = tokens_after file [] 0 bytes

-- a text is refused for this fault; want of memory says nothing of it
abbrev pub Refuses : Tokens → TokenFault → Type 0
Refuses tokens (BadByte place) = tokens ≡ Err (BadByte place)
Refuses tokens (BadNumber place) = tokens ≡ Err (BadNumber place)
Refuses tokens (LongName place) = tokens ≡ Err (LongName place)
Refuses tokens (OpenText place) = tokens ≡ Err (OpenText place)
Refuses tokens OutOfMemory = Unit {0}
