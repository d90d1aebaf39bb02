-- The place after the last byte of a text.
use Rattle.std.proofs.Common.{◌≡◌, ℕ, ◌+◌, ◌<◌, List, [], ◌∷◌, ◌++◌, length, take, Ok, refl, sym, ◌∙◌, ap}
use Rattle.std.specs.Prelude.{fold}
use Rattle.mx_base.specs.declared.places.Place.{Place}
use Rattle.c_tokens.specs.declared.token.Token.{Token}
use Rattle.c_tokens.specs.Cuts.{Cut, ends, space, token}
use Rattle.c_tokens.specs.Places.{place_after, step}
use Rattle.c_tokens.specs.Tokens.{tokens_of}
use Rattle.c_tokens.proofs.Cutting.{tokens_cut}
use Rattle.c_tokens.proofs.Standing.{place_more}

start_is : (file : ℕ) → place_after file [] ≡ record { file = file; line = 1; col = 1 }
unfolding place_after
start_is file = refl

pub from_start : (file : ℕ) (bytes : List ℕ) → fold step (record { file = file; line = 1; col = 1 }) bytes ≡ place_after file bytes
from_start file bytes = ap (λ z. fold step z bytes) (sym (start_is file)) ∙ place_more file [] bytes

file_is : (file : ℕ) (before : List ℕ) → (place_after file before).file ≡ file
unfolding place_after
file_is file before = refl

-- the first of these tokens, if there is one, is of the file
abbrev FirstOf : ℕ → List Token → Type 0
FirstOf file [] = Unit {0}
FirstOf file (t ∷ found) = t.place.file ≡ file

cut_file : (file : ℕ) (bytes : List ℕ) (to from : ℕ) (found : List Token) → Cut file bytes to from found → FirstOf file found
cut_file file bytes to from found ends = tt
cut_file file bytes to from found (space from' n found' gap more) = cut_file file bytes to (from' + n) found' more
cut_file file bytes to from found (token from' t found' here more) = ap (λ p. p.file) here.place_is ∙ file_is file (take from' bytes)

-- the file of the first token is that of the text
pub file_of_first : (file : ℕ) (bytes : List ℕ) (t : Token) (found : List Token) → tokens_of file bytes ≡ Ok (t ∷ found) → t.place.file ≡ file
file_of_first file bytes t found e = cut_file file bytes (length bytes) 0 (t ∷ found) (tokens_cut file bytes (t ∷ found) e)
