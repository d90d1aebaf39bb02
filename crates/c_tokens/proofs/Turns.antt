-- One piece of a text, and then the rest.
use Rattle.std.proofs.Common.{◌≡◌, ℕ, zero, suc, ◌+◌, ◌-◌, ◌<◌, ◌≤◌, List, [], ◌∷◌, ◌++◌, length, take, drop, append_assoc, append-nil, Ok, Err, refl, sym, ◌∙◌, ap, arith}
use Rattle.std.specs.Prelude.{fold}
use Rattle.std.proofs.Math.Seq.{take-add}
use Rattle.std.proofs.lemmas.List.{drop-drop, drop_all, length-drop, length-take-le}
use Rattle.mx_base.specs.declared.places.Place.{Place}
use Rattle.c_tokens.specs.declared.token.Token.{Token}
use Rattle.c_tokens.specs.declared.class.Class.{Class}
use Rattle.c_tokens.specs.declared.class.TokenKind.{TokenKind}
use Rattle.c_tokens.specs.declared.fault.Flaw.{Flaw}
use Rattle.c_tokens.specs.declared.piece.Piece.{Piece}
use Rattle.c_tokens.specs.declared.piece.Piece.TheVariants as p
use Rattle.c_tokens.specs.Faults.{fault_at}
use Rattle.c_tokens.specs.Places.{place_after, step}
use Rattle.c_tokens.specs.Pieces.{piece}
use Rattle.c_tokens.specs.Tokens.{Tokens, led_by, with_piece, tokens_after}
use Rattle.c_tokens.proofs.Standing.{place_more}

-- what is left of a text after so many bytes, and the place of the first of it
pub record Stands (file : ℕ) (bytes : List ℕ) (from : ℕ) (rest : List ℕ) (at : Place) : Type 0 where
  pub rest_is : rest ≡ drop from bytes
  pub place_is : at ≡ place_after file (take from bytes)
  pub within : from ≤ length bytes
  pub line : at.line ≤ from + 1
  pub col : at.col ≤ from + 1

pub stands_first : (file : ℕ) (bytes : List ℕ) → Stands file bytes 0 bytes (record { file = file; line = 1; col = 1 })
unfolding place_after
stands_first file bytes = record { rest_is = refl; place_is = refl; within = omega arith; line = omega arith; col = omega arith }

pub stands_on : {file : ℕ} {bytes : List ℕ} {from : ℕ} {rest : List ℕ} {at : Place} → Stands file bytes from rest at → (n : ℕ) (after : List ℕ) (to : ℕ) (next : Place) → n ≤ length rest → after ≡ drop n rest → to ≡ from + n → next ≡ fold step at (take n rest) → next.line ≤ at.line + n → next.col ≤ at.col + n → Stands file bytes to after next
stands_on {file} {bytes} {from} {rest} {at} stands n after to next fits after_is to_is next_is line col = record {
  rest_is = rw (after_is, stands.rest_is, to_is) (drop-drop n from bytes);
  place_is = rw (next_is, stands.place_is, stands.rest_is, to_is, take-add from n bytes) (place_more file (take from bytes) (take n (drop from bytes)));
  within = omega (arith, fits, to_is, stands.within, ap length stands.rest_is, length-drop from bytes);
  line = omega (arith, line, to_is, stands.line);
  col = omega (arith, col, to_is, stands.col);
}

pub some_left : {file : ℕ} {bytes : List ℕ} {from : ℕ} {rest : List ℕ} {at : Place} → Stands file bytes from rest at → 0 < length rest → from < length bytes
some_left {bytes = bytes} {from = from} stands some = omega (arith, some, stands.within, ap length stands.rest_is, length-drop from bytes)

skip : (file : ℕ) (before : List ℕ) (n : ℕ) (z : List ℕ) → tokens_after file before n z ≡ tokens_after file (before ++ take n z) 0 (drop n z)
skip file before zero z = ap (λ front. tokens_after file front 0 z) (sym (append-nil before))
skip file before (suc n) [] = refl
skip file before (suc n) (b ∷ z) =
    skip file (before ++ b ∷ []) n z ∙ ap (λ front. tokens_after file front 0 (drop n z)) (append_assoc before (b ∷ []) (take n z))

open_piece : (file : ℕ) (before : List ℕ) (n : ℕ) (b : ℕ) (z : List ℕ) → 0 < n → tokens_after file (before ++ b ∷ []) (n - 1) z ≡ tokens_after file (before ++ take n (b ∷ z)) 0 (drop n (b ∷ z))
open_piece file before zero b z some = absurd (omega arith)
open_piece file before (suc n) b z some = let e : suc n - 1 ≡ n = omega arith in ap (λ k. tokens_after file (before ++ b ∷ []) k z) e ∙ skip file before (suc n) (b ∷ z)

pub none_left : {file : ℕ} {bytes : List ℕ} {from : ℕ} {rest : List ℕ} {at : Place} → Stands file bytes from rest at → length rest ≡ 0 → length bytes ≤ from
none_left {bytes = bytes} {from = from} stands none = omega (arith, none, stands.within, ap length stands.rest_is, length-drop from bytes)

-- what is left of a text, after so many of its bytes
abbrev pub left_of : ℕ → List ℕ → ℕ → Tokens
left_of file bytes from = tokens_after file (take from bytes) 0 (drop from bytes)

-- the next piece is this one, of n bytes
pub goes_on : (file : ℕ) (bytes : List ℕ) (from n : ℕ) → tokens_after file (take from bytes ++ take n (drop from bytes)) 0 (drop n (drop from bytes)) ≡ left_of file bytes (from + n)
goes_on file bytes from n = rw (take-add from n bytes, drop-drop n from bytes) refl

first_is : (file : ℕ) (before z : List ℕ) (found : Piece) → 0 < length z → piece z ≡ found → tokens_after file before 0 z ≡ with_piece found file before (λ left. tokens_after file (before ++ take 1 z) left (drop 1 z))
first_is file before [] found some is = absurd (omega arith)
first_is file before (b ∷ bs) found some is = ap (λ x. with_piece x file before (λ left. tokens_after file (before ++ b ∷ []) left bs)) is

rest_is : (file : ℕ) (before z : List ℕ) (n : ℕ) → 0 < n → 0 < length z → tokens_after file (before ++ take 1 z) (n - 1) (drop 1 z) ≡ tokens_after file (before ++ take n z) 0 (drop n z)
rest_is file before [] n positive some = absurd (omega arith)
rest_is file before (b ∷ bs) n positive some = open_piece file before n b bs positive

led_by_both : (front back : List Token) (tokens : Tokens) → led_by front (led_by back tokens) ≡ led_by (front ++ back) tokens
led_by_both front back (Ok more) = ap Ok (sym (append_assoc front back more))
led_by_both front back (Err fault) = refl

led_by_none : (tokens : Tokens) → tokens ≡ led_by [] tokens
led_by_none (Ok found) = refl
led_by_none (Err fault) = refl

pub start_turn : (file : ℕ) (bytes : List ℕ) → tokens_after file [] 0 bytes ≡ led_by [] (left_of file bytes 0)
start_turn file bytes = led_by_none (tokens_after file [] 0 bytes)

module _ (file : ℕ) (bytes : List ℕ) (from : ℕ) where
  piece_is : (found : Piece) → from < length bytes → piece (drop from bytes) ≡ found → left_of file bytes from ≡ with_piece found file (take from bytes) (λ left. tokens_after file (take from bytes ++ take 1 (drop from bytes)) left (drop 1 (drop from bytes)))
  piece_is found some is = let left : 0 < length (drop from bytes) = omega (arith, length-drop from bytes) in first_is file (take from bytes) (drop from bytes) found left is

  after_piece : (n : ℕ) → from < length bytes → 0 < n → tokens_after file (take from bytes ++ take 1 (drop from bytes)) (n - 1) (drop 1 (drop from bytes)) ≡ left_of file bytes (from + n)
  after_piece n some positive =
      let left : 0 < length (drop from bytes) = omega (arith, length-drop from bytes) in
      rest_is file (take from bytes) (drop from bytes) n positive left ∙ goes_on file bytes from n

module _ (file : ℕ) (bytes : List ℕ) (from : ℕ) (front : List Token) where
  pub gap_turn : (n : ℕ) → from < length bytes → piece (drop from bytes) ≡ p.Gap n → 0 < n → led_by front (left_of file bytes from) ≡ led_by front (left_of file bytes (from + n))
  gap_turn n some is positive = ap (led_by front) (piece_is file bytes from (p.Gap n) some is ∙ after_piece file bytes from n some positive)

  pub lexeme_turn : (kind : TokenKind) (class : Class) (n : ℕ) → from < length bytes → piece (drop from bytes) ≡ p.Lexeme kind class n → 0 < n → led_by front (left_of file bytes from) ≡ led_by (front ++ record { kind = kind; class = class; place = place_after file (take from bytes); from = from; to = from + n } ∷ []) (left_of file bytes (from + n))
  lexeme_turn kind class n some is positive =
      let token : ℕ → Token = λ start. record { kind = kind; class = class; place = place_after file (take from bytes); from = start; to = start + n } in
      let start : length (take from bytes) ≡ from = length-take-le from bytes (omega arith) in
      ap (led_by front) (piece_is file bytes from (p.Lexeme kind class n) some is ∙ ap (led_by (token (length (take from bytes)) ∷ [])) (after_piece file bytes from n some positive))
      ∙ led_by_both front (token (length (take from bytes)) ∷ []) (left_of file bytes (from + n))
      ∙ ap (λ k. led_by (front ++ token k ∷ []) (left_of file bytes (from + n))) start

  pub bad_turn : (flaw : Flaw) → from < length bytes → piece (drop from bytes) ≡ p.Bad flaw → led_by front (left_of file bytes from) ≡ Err (fault_at flaw (place_after file (take from bytes)))
  bad_turn flaw some is = ap (led_by front) (piece_is file bytes from (p.Bad flaw) some is)

  pub end_turn : length bytes ≤ from → led_by front (left_of file bytes from) ≡ Ok front
  end_turn end = rw (drop_all from bytes end) (ap Ok (append-nil front))
