-- What the tokens of a text are, and what a byte is that begins none.
use Rattle.std.proofs.Common.{◌≡◌, ℕ, zero, suc, ◌+◌, ◌-◌, List, [], ◌∷◌, ◌++◌, length, drop, append_assoc, Ok, Err, All, refl, sym, subst, arith}
use Rattle.std.specs.List.{AllByRecursion}
use Rattle.std.proofs.lemmas.List.{drop_at}
use Rattle.std.proofs.lemmas.List.Elements.{All-from_recursion}
use Rattle.c_tokens.specs.declared.token.Token.{Token}
use Rattle.c_tokens.specs.declared.class.Class.{Class}
use Rattle.c_tokens.specs.declared.class.TokenKind.{TokenKind}
use Rattle.c_tokens.specs.declared.piece.Piece.{Piece}
use Rattle.c_tokens.specs.declared.piece.Piece.TheVariants.{Gap, Lexeme, Bad}
use Rattle.c_tokens.specs.Places.{place_after}
use Rattle.c_tokens.specs.Pieces.{piece}
use Rattle.c_tokens.specs.Tokens.{Tokens, led_by, with_piece, tokens_after, tokens_of}
use Rattle.c_tokens.specs.Lexical.{IsLongest, IsLongestOf}
use Rattle.c_tokens.proofs.Longest.{piece_longest}

-- the tokens before which one token stands
pub record IsLed (token : Token) (rest : Tokens) (found : List Token) : Type 0 where
  pub inner : List Token
  pub is : rest ≡ Ok inner
  pub whole : token ∷ inner ≡ found

pub led_parts : (token : Token) (rest : Tokens) (found : List Token) → led_by (token ∷ []) rest ≡ Ok found → IsLed token rest found
led_parts token (Ok inner) found is = record { inner = inner; is = refl; whole = cc }
led_parts token (Err fault) found is = cc

-- a lexeme that stands after these bytes
longest_at : (before z : List ℕ) (kind : TokenKind) (class : Class) (n : ℕ) → IsLongest z kind class n → IsLongest (drop (length before) (before ++ z)) kind class (length before + n - length before)
longest_at before z kind class n is =
    let size : n ≡ length before + n - length before = omega arith in
    subst (λ x. IsLongest x kind class (length before + n - length before)) (sym (drop_at before z (length before) refl)) (subst (λ x. IsLongest z kind class x) size is)

all_longest : (file : ℕ) (before : List ℕ) (left : ℕ) (z : List ℕ) (found : List Token) → tokens_after file before left z ≡ Ok found → AllByRecursion (IsLongestOf (before ++ z)) found
all_longest file before left [] found is = subst (λ xs. AllByRecursion (IsLongestOf (before ++ [])) xs) (let same : [] ≡ found = cc in same) tt
all_longest file before (suc left) (b ∷ bs) found is =
    subst (λ xs. AllByRecursion (IsLongestOf xs) found) (append_assoc before (b ∷ []) bs) (all_longest file (before ++ b ∷ []) left bs found is)
all_longest file before zero (b ∷ bs) found is =
    by_piece file before b bs (piece (b ∷ bs)) found refl (λ left more same. subst (λ xs. AllByRecursion (IsLongestOf xs) more) (append_assoc before (b ∷ []) bs) (all_longest file (before ++ b ∷ []) left bs more same)) is where
      by_piece : (file : ℕ) (before : List ℕ) (b : ℕ) (bs : List ℕ) (first : Piece) (found : List Token) → piece (b ∷ bs) ≡ first → ((left : ℕ) (more : List Token) → tokens_after file (before ++ b ∷ []) left bs ≡ Ok more → AllByRecursion (IsLongestOf (before ++ b ∷ bs)) more) → with_piece first file before (λ left. tokens_after file (before ++ b ∷ []) left bs) ≡ Ok found → AllByRecursion (IsLongestOf (before ++ b ∷ bs)) found
      by_piece file before b bs (Gap n) found first go is = go (n - 1) found is
      by_piece file before b bs (Lexeme kind class n) found first go is =
          let token : Token = record { kind = kind; class = class; place = place_after file before; from = length before; to = length before + n } in
          let parts = led_parts token (tokens_after file (before ++ b ∷ []) (n - 1) bs) found is in
          subst (λ xs. AllByRecursion (IsLongestOf (before ++ b ∷ bs)) xs) parts.whole
          (longest_at before (b ∷ bs) kind class n (piece_longest (b ∷ bs) kind class n (omega arith) first), go (n - 1) parts.inner parts.is)
      by_piece file before b bs (Bad flaw) found first go is = cc

pub tokens_longest : (file : ℕ) (bytes : List ℕ) (found : List Token) → tokens_of file bytes ≡ Ok found → All (IsLongestOf bytes) found
unfolding tokens_of
tokens_longest file bytes found is = All-from_recursion (IsLongestOf bytes) found (all_longest file [] 0 bytes found is)
