-- What a text or a character stands for is what its spelling says.
use Rattle.std.proofs.Common.{◌≡◌, ◌≢◌, ◌↔◌, ℕ, ◌+◌, Bool, true, false, cond, ◌==◌, List, [], ◌∷◌, ◌++◌, length, length-append, drop, Option, Some, None, refl, ap, ◌∙◌, sym, subst, arith}
use Rattle.std.specs.Prelude.{slice_index}
use Rattle.std.proofs.lemmas.Bool.{eqb-true, eq-eqb}
use Rattle.std.proofs.lemmas.List.{take_all}
use Rattle.c_tokens.specs.declared.quotes.Reading.TheVariants.{Plain}
use Rattle.c_tokens.specs.Quotes.{Quoted, quoted, quoted_from, whole, single, text_of, character_of}
use Rattle.c_tokens.specs.Lexical.{Spells, IsQuoted}
use Rattle.c_tokens.proofs.Quotations.{is_read, is_quoted}

-- the bytes between quotes, if the quotes are the first and the last of the bytes
abbrev between : ℕ → List ℕ → Option (List ℕ)
between quote text = cond (slice_index text 0 == quote) (whole (length (drop 1 text)) (quoted quote (drop 1 text))) None

is_between : (quote : ℕ) (text bytes : List ℕ) → quote ≢ 92 → IsQuoted quote text bytes → between quote text ≡ Some bytes
unfolding quoted
is_between quote text bytes other is =
    let inner = is_quoted quote is.source bytes [] other is.spells in
    let size : length is.source + 1 ≡ length (is.source ++ quote ∷ []) = omega (arith, length-append is.source (quote ∷ [])) in
    rw (is.is, eq-eqb quote quote refl) (rw (inner, eq-eqb (length is.source + 1) (length (is.source ++ quote ∷ [])) size) refl)

-- what a test of a size leaves
whole_parts : (n : ℕ) (o : Option Quoted) (bytes : List ℕ) → whole n o ≡ Some bytes → (found : Quoted) × (o ≡ Some found) × (found.size ≡ n) × (found.bytes ≡ bytes)
whole_parts n None bytes is = cc
whole_parts n (Some found) bytes is = sized n found bytes (found.size == n) refl is where
  sized : (n : ℕ) (found : Quoted) (bytes : List ℕ) (t : Bool) → (found.size == n) ≡ t → cond t (Some found.bytes) None ≡ Some bytes → (other : Quoted) × (Some found ≡ Some other) × (other.size ≡ n) × (other.bytes ≡ bytes)
  sized n found bytes true e is = (found, refl, eqb-true found.size n e, (let same : found.bytes ≡ bytes = cc in same))
  sized n found bytes false e is = cc

from_between : (quote : ℕ) (text bytes : List ℕ) → between quote text ≡ Some bytes → IsQuoted quote text bytes
unfolding quoted
from_between quote [] bytes is = nothing_there quote (0 == quote) is where
  nothing_there : (quote : ℕ) (t : Bool) → cond t (whole 0 None) None ≡ Some bytes → IsQuoted quote [] bytes
  nothing_there quote true is = cc
  nothing_there quote false is = cc
from_between quote (b ∷ rest) bytes is = opened quote b rest bytes (b == quote) refl is where
  opened : (quote b : ℕ) (rest bytes : List ℕ) (t : Bool) → (b == quote) ≡ t → cond t (whole (length rest) (quoted_from quote Plain rest)) None ≡ Some bytes → IsQuoted quote (b ∷ rest) bytes
  opened quote b rest bytes true e is =
      let parts = whole_parts (length rest) (quoted_from quote Plain rest) bytes is in
      let read = is_read quote Plain rest parts.0 tt parts.1 in
      let all : rest ≡ read.source ++ quote ∷ [] = sym (take_all parts.0.size rest (omega (arith, parts.2))) ∙ read.is in
      record { source = read.source; is = ap (λ xs. b ∷ xs) all ∙ ap (λ x. x ∷ read.source ++ quote ∷ []) (eqb-true b quote e); spells = subst (λ xs. Spells quote read.source xs) parts.3 read.spells }
  opened quote b rest bytes false e is = cc

pub text_is_quoted : (text bytes : List ℕ) → (text_of text ≡ Some bytes) ↔ IsQuoted 34 text bytes
unfolding text_of
text_is_quoted text bytes =
    (λ is. from_between 34 text bytes is, λ is. is_between 34 text bytes (λ e. let apart : (34 == 92) ≡ true = eq-eqb 34 92 e in cc) is)

single_parts : (o : Option (List ℕ)) (b : ℕ) → single o ≡ Some b → o ≡ Some (b ∷ [])
single_parts None b is = cc
single_parts (Some []) b is = cc
single_parts (Some (x ∷ [])) b is = let same : x ≡ b = cc in ap (λ y. Some (y ∷ [])) same
single_parts (Some (x ∷ y ∷ xs)) b is = cc

single_between : (quote : ℕ) (text : List ℕ) (t : Bool) → cond t (single (whole (length (drop 1 text)) (quoted quote (drop 1 text)))) None ≡ single (cond t (whole (length (drop 1 text)) (quoted quote (drop 1 text))) None)
single_between quote text true = refl
single_between quote text false = refl

pub character_is_quoted : (text : List ℕ) (b : ℕ) → (character_of text ≡ Some b) ↔ IsQuoted 39 text (b ∷ [])
unfolding character_of
character_is_quoted text b =
    let same = single_between 39 text (slice_index text 0 == 39) in (
      λ is. from_between 39 text (b ∷ []) (single_parts (between 39 text) b (sym same ∙ is)),
      λ is. same ∙ ap single (is_between 39 text (b ∷ []) (λ e. let apart : (39 == 92) ≡ true = eq-eqb 39 92 e in cc) is),
    )
