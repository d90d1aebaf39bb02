-- Where no mark begins, and no name, word, number, character or text, no token does.
use Rattle.std.proofs.Common.{◌≡◌, ℕ, zero, suc, ◌≤◌, false, ◌==◌, List, [], ◌∷◌, length, take, Option, Some, None, refl, ap, ◌∙◌, arith}
use Rattle.std.specs.Prelude.{slice_index}
use Rattle.std.proofs.lemmas.List.{get_or-take}
use Rattle.c_tokens.specs.declared.class.Class.{Class}
use Rattle.c_tokens.specs.declared.class.TokenKind.{TokenKind}
use Rattle.c_tokens.specs.declared.class.TokenKind.TheVariants as kind
use Rattle.c_tokens.specs.declared.fault.Flaw.TheVariants as f
use Rattle.c_tokens.specs.declared.piece.Piece.TheVariants.{Bad}
use Rattle.c_tokens.specs.Marks.{mark_of_one, mark_of_two, mark_of_three}
use Rattle.c_tokens.specs.Pieces.{character, text, mark, or_shorter, is_word_byte}
use Rattle.c_tokens.specs.Lexical.{mark_of, IsToken, BeginsNone}
use Rattle.c_tokens.proofs.Spelled.{word_is_name, number_is_word}
use Rattle.c_tokens.proofs.Longest.{token_is_mark, after_one}

-- no mark begins there
abbrev pub NoMark : List ℕ → Type 0
NoMark z = (mark_of_three (slice_index z 0) (slice_index z 1) (slice_index z 2) ≡ None) × (mark_of_two (slice_index z 0) (slice_index z 1) ≡ None) × (mark_of_one (slice_index z 0) ≡ None)

no_mark : (three two one : Option Class) → or_shorter 3 three (or_shorter 2 two (or_shorter 1 one (Bad f.BadByte))) ≡ Bad f.BadByte → (three ≡ None) × (two ≡ None) × (one ≡ None)
no_mark (Some x) two one is = cc
no_mark None (Some x) one is = cc
no_mark None None (Some x) is = cc
no_mark None None None is = (refl, refl, refl)

pub mark_is_none : (z : List ℕ) → mark z ≡ Bad f.BadByte → NoMark z
unfolding mark
mark_is_none z is = no_mark (mark_of_three (slice_index z 0) (slice_index z 1) (slice_index z 2)) (mark_of_two (slice_index z 0) (slice_index z 1)) (mark_of_one (slice_index z 0)) is

pub no_front : (z : List ℕ) (m : ℕ) (d : Class) → NoMark z → m ≤ length z → mark_of (take m z) ≡ Some d → ⊥
no_front z zero d none fits is = cc
no_front [] (suc zero) d none fits is = omega arith
no_front (a ∷ z) (suc zero) d none fits is = let one : mark_of_one a ≡ None = none.2 in cc
no_front z (suc (suc m)) d none fits is = after_one z (suc (suc m)) d none.0 none.1 (omega arith) fits is

pub empty_is_none : (kind : TokenKind) (class : Class) → IsToken kind class [] → ⊥
empty_is_none kind.Name class is = let name = is.1.is in cc
empty_is_none kind.Word class is = let name = word_is_name [] class is in cc
empty_is_none kind.Number class is = let digit = (number_is_word [] is.1).1 in cc
empty_is_none kind.Character class is = let whole = is.1.1.is in cc
empty_is_none kind.Text class is = let whole = is.1.1.is in cc
empty_is_none kind.Mark class is = cc

pub mark_begins_none : (z : List ℕ) → is_word_byte (slice_index z 0) ≡ false → (slice_index z 0 == 39) ≡ false → (slice_index z 0 == 34) ≡ false → NoMark z → BeginsNone z
mark_begins_none z word character text none zero kind class fits is = empty_is_none kind class is
mark_begins_none z word character text none (suc m) kind class fits is =
    let first : slice_index (take (suc m) z) 0 ≡ slice_index z 0 = get_or-take (suc m) z 0 0 (omega arith) in
    no_front z (suc m) class none fits (token_is_mark (take (suc m) z) kind class (ap is_word_byte first ∙ word) (ap (λ b. b == 39) first ∙ character) (ap (λ b. b == 34) first ∙ text) is)
