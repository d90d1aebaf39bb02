-- How the tokens of a text cut it, and what stands where a text is refused.
use Rattle.std.proofs.Common.{◌≡◌, ℕ, zero, suc, ◌+◌, ◌-◌, ◌<◌, ◌≤◌, Bool, true, false, not, cond, ◌==◌, nat_lt, List, [], ◌∷◌, ◌++◌, length, take, drop, append_assoc, Option, Some, None, is_some, Ok, refl, ap, ◌∙◌, sym, subst, arith}
use Rattle.std.specs.Prelude.{slice_index}
use Rattle.std.specs.List.{prefix_len}
use Rattle.std.specs.Char.{is_ascii_digit}
use Rattle.std.proofs.lemmas.Bool.{eqb-true, both_ways}
use Rattle.std.proofs.lemmas.List.{drop_at, take_at, length-append, take-append-drop}
use Rattle.std.proofs.lemmas.List.Sums.{prefix_len-le-length}
use Rattle.std.proofs.lemmas.List.Folds.{length-prefix_len}
use Rattle.c_tokens.specs.declared.class.Class.{Class}
use Rattle.c_tokens.specs.declared.class.Class.TheVariants as c
use Rattle.c_tokens.specs.declared.class.TokenKind.{TokenKind}
use Rattle.c_tokens.specs.declared.class.TokenKind.TheVariants as kind
use Rattle.c_tokens.specs.declared.token.Token.{Token}
use Rattle.c_tokens.specs.declared.fault.Flaw.TheVariants as f
use Rattle.c_tokens.specs.declared.piece.Piece.{Piece}
use Rattle.c_tokens.specs.declared.piece.Piece.TheVariants.{Gap, Lexeme, Bad}
use Rattle.c_tokens.specs.Words.{word_of}
use Rattle.c_tokens.specs.Marks.{mark_of_one, mark_of_two, mark_of_three}
use Rattle.c_tokens.specs.Numbers.{number_of}
use Rattle.c_tokens.specs.Quotes.{Quoted, quoted}
use Rattle.c_tokens.specs.Places.{is_line_feed, place_after}
use Rattle.c_tokens.specs.Pieces.{piece, run, numeral, named, comment, comment_len, character, text, mark, or_shorter, is_blank, is_word_byte}
use Rattle.c_tokens.specs.Lexical.{IsLongest}
use Rattle.c_tokens.specs.Tokens.{with_piece, tokens_after, tokens_of}
use Rattle.c_tokens.specs.Cuts.{IsSpace, white, line, comment as block_comment, StandsAt, Cut, ends, space, token, begins_comment}
use Rattle.c_tokens.proofs.Rules.{by_blanks, by_word, by_line, by_block, by_character, by_text, by_mark, rule_of, front_ends, line_ends, closes}
use Rattle.c_tokens.proofs.Longest.{piece_longest, all_in_prefix, some_prefix}
use Rattle.c_tokens.proofs.Whole.{led_parts}

-- ---- runs

-- by which rule a run is what it is
pub data RunRule (text : List ℕ) (found : Piece) : Type 0 where
  number : is_ascii_digit (slice_index text 0) ≡ true → is_some (number_of text) ≡ true → Lexeme kind.Number c.Number (length text) ≡ found → RunRule text found
  no_number : is_ascii_digit (slice_index text 0) ≡ true → is_some (number_of text) ≡ false → Bad f.BadNumber ≡ found → RunRule text found
  reserved : (class : Class) → is_ascii_digit (slice_index text 0) ≡ false → word_of text ≡ Some class → Lexeme kind.Word class (length text) ≡ found → RunRule text found
  long : is_ascii_digit (slice_index text 0) ≡ false → nat_lt 63 (length text) ≡ true → Bad f.LongName ≡ found → RunRule text found
  name : is_ascii_digit (slice_index text 0) ≡ false → Lexeme kind.Name c.Name (length text) ≡ found → RunRule text found

module _ (text : List ℕ) (found : Piece) where
  number_rule : (is_number : Bool) → is_some (number_of text) ≡ is_number → is_ascii_digit (slice_index text 0) ≡ true → numeral (length text) is_number ≡ found → RunRule text found
  number_rule true s d told = number d s told
  number_rule false s d told = no_number d s told

  free_rule : (is_long : Bool) → nat_lt 63 (length text) ≡ is_long → is_ascii_digit (slice_index text 0) ≡ false → cond is_long (Bad f.LongName) (Lexeme kind.Name c.Name (length text)) ≡ found → RunRule text found
  free_rule true l d told = long d l told
  free_rule false l d told = name d told

  named_rule : (w : Option Class) → word_of text ≡ w → is_ascii_digit (slice_index text 0) ≡ false → named (length text) w ≡ found → RunRule text found
  named_rule None w d told = free_rule (nat_lt 63 (length text)) refl d told
  named_rule (Some class) w d told = reserved class d w told

  digit_rule : (digit : Bool) → is_ascii_digit (slice_index text 0) ≡ digit → cond digit (numeral (length text) (is_some (number_of text))) (named (length text) (word_of text)) ≡ found → RunRule text found
  digit_rule true d told = number_rule (is_some (number_of text)) refl d told
  digit_rule false d told = named_rule (word_of text) refl d told

  pub run_rule : run text ≡ found → RunRule text found
  run_rule told = digit_rule (is_ascii_digit (slice_index text 0)) refl told

run_is_no_gap : (text : List ℕ) (n : ℕ) → run text ≡ Gap n → ⊥
run_is_no_gap text n is =
    elim (run_rule text (Gap n) is) [
      | number d s told ↦ cc
      | no_number d s told ↦ cc
      | reserved class d w told ↦ cc
      | long d l told ↦ cc
      | name d told ↦ cc
    ]

run_size : (text : List ℕ) (k : TokenKind) (class : Class) (n : ℕ) → run text ≡ Lexeme k class n → length text ≡ n
run_size text k class n is =
    elim (run_rule text (Lexeme k class n) is) [
      | number d s told ↦ cc
      | no_number d s told ↦ cc
      | reserved class' d w told ↦ cc
      | long d l told ↦ cc
      | name d told ↦ cc
    ]

-- ---- gaps

comment_size : (o : Option ℕ) (n : ℕ) → comment o ≡ Gap n → (m : ℕ) × (o ≡ Some m) × (n ≡ m + 2)
comment_size None n is = cc
comment_size (Some m) n is = (m, refl, (let same : m + 2 ≡ n = cc in sym same))

single_is_no_gap : (k n : ℕ) (single : Bool) → cond single (Lexeme kind.Character c.Character k) (Bad f.OpenText) ≡ Gap n → ⊥
single_is_no_gap k n true is = cc
single_is_no_gap k n false is = cc

character_is_no_gap : (o : Option Quoted) (n : ℕ) → character o ≡ Gap n → ⊥
character_is_no_gap None n is = cc
character_is_no_gap (Some q) n is = single_is_no_gap (q.size + 1) n (length q.bytes == 1) is

text_is_no_gap : (o : Option Quoted) (n : ℕ) → text o ≡ Gap n → ⊥
text_is_no_gap None n is = cc
text_is_no_gap (Some q) n is = cc

shorter_is_no_gap : (three two one : Option Class) (n : ℕ) → or_shorter 3 three (or_shorter 2 two (or_shorter 1 one (Bad f.BadByte))) ≡ Gap n → ⊥
shorter_is_no_gap (Some x) two one n is = cc
shorter_is_no_gap None (Some x) one n is = cc
shorter_is_no_gap None None (Some x) n is = cc
shorter_is_no_gap None None None n is = cc

pub mark_is_no_gap : (z : List ℕ) (n : ℕ) → mark z ≡ Gap n → ⊥
unfolding mark
mark_is_no_gap z n is = shorter_is_no_gap (mark_of_three (slice_index z 0) (slice_index z 1) (slice_index z 2)) (mark_of_two (slice_index z 0) (slice_index z 1)) (mark_of_one (slice_index z 0)) n is

pub two_first : (z : List ℕ) (a b : ℕ) → 0 < a → 0 < b → slice_index z 0 ≡ a → slice_index z 1 ≡ b → z ≡ a ∷ b ∷ drop 2 z
two_first [] a b some more is next = absurd (omega (arith, some, is))
two_first (x ∷ []) a b some more is next = absurd (omega (arith, more, next))
two_first (x ∷ y ∷ z) a b some more is next = ap (λ k. k ∷ y ∷ z) is ∙ ap (λ k. a ∷ k ∷ z) next

line_is_space : (z : List ℕ) (n : ℕ) → Gap (prefix_len (λ b. not (is_line_feed b)) (47 ∷ 47 ∷ z)) ≡ Gap n → IsSpace (47 ∷ 47 ∷ z) n
line_is_space z n told =
    let p : ℕ → Bool = λ b. not (is_line_feed b) in
    let size : 1 + (1 + prefix_len p z) ≡ n = cc in
    let inside = length-prefix_len p z in
    line (take (prefix_len p z) z) (drop (prefix_len p z) z) (ap (λ xs. 47 ∷ 47 ∷ xs) (sym (take-append-drop (prefix_len p z) z))) (all_in_prefix p z) (line_ends z) (omega (arith, size, inside))

block_is_space : (z : List ℕ) (n : ℕ) → comment (comment_len z) ≡ Gap n → IsSpace (47 ∷ 42 ∷ z) n
block_is_space z n told =
    let size = comment_size (comment_len z) n told in
    let closed = closes z size.0 size.1 in
    let inner = closed.size in
    let outer = size.2 in
    block_comment closed.inside closed.rest (ap (λ xs. 47 ∷ 42 ∷ xs) closed.is) closed.unended (omega (arith, inner, outer))

white_is_space : (z : List ℕ) → 0 < length z → is_blank (slice_index z 0) ≡ true → IsSpace z (prefix_len is_blank z)
white_is_space z some first = white (some_prefix is_blank z some first) (prefix_len-le-length is_blank z) (all_in_prefix is_blank z)

pub gap_is_space : (z : List ℕ) (n : ℕ) → 0 < length z → piece z ≡ Gap n → IsSpace z n
gap_is_space z n some told =
    elim (rule_of z (Gap n) told) [
      | by_blanks first is ↦ (let same : prefix_len is_blank z ≡ n = cc in subst (λ k. IsSpace z k) same (white_is_space z some first))
      | by_word blank first is ↦ absurd (run_is_no_gap (take (prefix_len is_word_byte z) z) n is)
      | by_line first second is ↦
          (let begun = two_first z 47 47 (omega arith) (omega arith) (eqb-true (slice_index z 0) 47 first) (eqb-true (slice_index z 1) 47 second) in
          subst (λ x. IsSpace x n) (sym begun) (line_is_space (drop 2 z) n (subst (λ x. Gap (prefix_len (λ b. not (is_line_feed b)) x) ≡ Gap n) begun is)))
      | by_block first second is ↦
          (let begun = two_first z 47 42 (omega arith) (omega arith) (eqb-true (slice_index z 0) 47 first) (eqb-true (slice_index z 1) 42 second) in
          subst (λ x. IsSpace x n) (sym begun) (block_is_space (drop 2 z) n is))
      | by_character first is ↦ absurd (character_is_no_gap (quoted 39 (drop 1 z)) n is)
      | by_text first is ↦ absurd (text_is_no_gap (quoted 34 (drop 1 z)) n is)
      | by_mark blank word single double bare is ↦ absurd (mark_is_no_gap z n is)
    ]

pub space_fits : (z : List ℕ) (n : ℕ) → IsSpace z n → (0 < n) × (n ≤ length z)
space_fits z n (white some within all) = (some, within)
space_fits z n (line inside rest is all ending size) =
    let whole = ap length is in
    let parts = length-append inside rest in
    (omega (arith, size), omega (arith, size, whole, parts))
space_fits z n (block_comment inside rest is none size) =
    let whole = ap length is in
    let parts = length-append inside (42 ∷ 47 ∷ rest) in
    (omega (arith, size), omega (arith, size, whole, parts))

-- ---- tokens

first_is_other : (z : List ℕ) (b : ℕ) → (slice_index z 0 == b) ≡ true → (b == 47) ≡ false → begins_comment z ≡ false
first_is_other z b first other = rw (ap (λ x. x == 47) (eqb-true (slice_index z 0) b first), other) refl

word_is_bare : (z : List ℕ) (slash : Bool) → (slice_index z 0 == 47) ≡ slash → is_word_byte (slice_index z 0) ≡ true → begins_comment z ≡ false
word_is_bare z true is first = let no : is_word_byte 47 ≡ true = subst (λ b. is_word_byte b ≡ true) (eqb-true (slice_index z 0) 47 is) first in cc
word_is_bare z false is first = rw is refl

comment_is_no_token : (o : Option ℕ) (k : TokenKind) (class : Class) (n : ℕ) → comment o ≡ Lexeme k class n → ⊥
comment_is_no_token None k class n is = cc
comment_is_no_token (Some m) k class n is = cc

lexeme_is_bare : (z : List ℕ) (k : TokenKind) (class : Class) (n : ℕ) → piece z ≡ Lexeme k class n → begins_comment z ≡ false
lexeme_is_bare z k class n told =
    elim (rule_of z (Lexeme k class n) told) [
      | by_blanks first is ↦ cc
      | by_word blank first is ↦ word_is_bare z (slice_index z 0 == 47) refl first
      | by_line first second is ↦ cc
      | by_block first second is ↦ absurd (comment_is_no_token (comment_len (drop 2 z)) k class n is)
      | by_character first is ↦ first_is_other z 39 first refl
      | by_text first is ↦ first_is_other z 34 first refl
      | by_mark blank word single double bare is ↦ bare
    ]

pub quote_is_no_word : (b quote : ℕ) → (b == quote) ≡ true → is_word_byte quote ≡ false → is_word_byte b ≡ true → ⊥
quote_is_no_word b quote is other first = both_ways (is_word_byte quote) other (subst (λ x. is_word_byte x ≡ true) (eqb-true b quote is) first)

lexeme_is_whole : (z : List ℕ) (k : TokenKind) (class : Class) (n : ℕ) → piece z ≡ Lexeme k class n → is_word_byte (slice_index z 0) ≡ true → is_word_byte (slice_index z n) ≡ false
lexeme_is_whole z k class n told begun =
    elim (rule_of z (Lexeme k class n) told) [
      | by_blanks first is ↦ cc
      | by_word blank first is ↦
          (let size = run_size (take (prefix_len is_word_byte z) z) k class n is in
          subst (λ m. is_word_byte (slice_index z m) ≡ false) (sym (length-prefix_len is_word_byte z) ∙ size) (front_ends is_word_byte z refl))
      | by_line first second is ↦ cc
      | by_block first second is ↦ absurd (comment_is_no_token (comment_len (drop 2 z)) k class n is)
      | by_character first is ↦ absurd (quote_is_no_word (slice_index z 0) 39 first refl begun)
      | by_text first is ↦ absurd (quote_is_no_word (slice_index z 0) 34 first refl begun)
      | by_mark blank word single double bare is ↦ absurd (both_ways (is_word_byte (slice_index z 0)) word begun)
    ]

-- ---- a text

-- a token that stands after these bytes
pub stands_after : (file : ℕ) (before z : List ℕ) (k : TokenKind) (class : Class) (n : ℕ) → 0 < length z → piece z ≡ Lexeme k class n → StandsAt file (before ++ z) (length before) (record { kind = k; class = class; place = place_after file before; from = length before; to = length before + n })
stands_after file before z k class n some told =
    let token = piece_longest z k class n some told in
    let positive = token.some in
    let fits = token.within in
    let size : n ≡ length before + n - length before = omega arith in
    let left : z ≡ drop (length before) (before ++ z) = sym (drop_at before z (length before) refl) in
    record {
      from_is = refl;
      some = omega (arith, positive);
      within = omega (arith, fits, length-append before z);
      place_is = ap (place_after file) (sym (take_at before z (length before) refl));
      longest = subst (λ x. IsLongest x k class (length before + n - length before)) left (subst (λ m. IsLongest z k class m) size token);
      bare = subst (λ x. begins_comment x ≡ false) left (lexeme_is_bare z k class n told);
      whole = subst (λ x. is_word_byte (slice_index x 0) ≡ true → is_word_byte (slice_index x (length before + n - length before)) ≡ false) left (subst (λ m. is_word_byte (slice_index z 0) ≡ true → is_word_byte (slice_index z m) ≡ false) size (lexeme_is_whole z k class n told));
    }

-- what stands after these bytes is a gap
pub space_after : (before z : List ℕ) (n : ℕ) → IsSpace z n → IsSpace (drop (length before) (before ++ z)) n
space_after before z n is = subst (λ x. IsSpace x n) (sym (drop_at before z (length before) refl)) is

all_cut : (file : ℕ) (before : List ℕ) (left : ℕ) (z : List ℕ) (found : List Token) (from : ℕ) → from ≡ length before + left → left ≤ length z → tokens_after file before left z ≡ Ok found → Cut file (before ++ z) (length (before ++ z)) from found
all_cut file before zero [] found from at fits is =
    let none : [] ≡ found = cc in
    let end : length (before ++ []) ≡ from = omega (arith, at, length-append before []) in
    subst (λ xs. Cut file (before ++ []) (length (before ++ [])) from xs) none (subst (λ k. Cut file (before ++ []) (length (before ++ [])) k []) end ends)
all_cut file before (suc left) [] found from at fits is = absurd (omega (arith, fits))
all_cut file before (suc left) (b ∷ bs) found from at fits is =
    subst (λ xs. Cut file xs (length xs) from found) (append_assoc before (b ∷ []) bs)
    (all_cut file (before ++ b ∷ []) left bs found from (omega (arith, at, length-append before (b ∷ []))) (omega (arith, fits)) is)
all_cut file before zero (b ∷ bs) found from at fits is =
    let here : length before ≡ from = omega (arith, at) in
    subst (λ k. Cut file (before ++ b ∷ bs) (length (before ++ b ∷ bs)) k found) here
    (by_piece (piece (b ∷ bs)) found refl (λ n more inside same. subst (λ xs. Cut file xs (length xs) (length before + n) more) (append_assoc before (b ∷ []) bs) (all_cut file (before ++ b ∷ []) (n - 1) bs more (length before + n) (omega (arith, inside.0, length-append before (b ∷ []))) (omega (arith, inside.1)) same)) is) where
      by_piece : (first : Piece) (found : List Token) → piece (b ∷ bs) ≡ first → ((n : ℕ) (more : List Token) → (0 < n) × (n ≤ length (b ∷ bs)) → tokens_after file (before ++ b ∷ []) (n - 1) bs ≡ Ok more → Cut file (before ++ b ∷ bs) (length (before ++ b ∷ bs)) (length before + n) more) → with_piece first file before (λ left. tokens_after file (before ++ b ∷ []) left bs) ≡ Ok found → Cut file (before ++ b ∷ bs) (length (before ++ b ∷ bs)) (length before) found
      by_piece (Gap n) found first go is =
          let gap = gap_is_space (b ∷ bs) n (omega arith) first in
          space (length before) n found (space_after before (b ∷ bs) n gap) (go n found (space_fits (b ∷ bs) n gap) is)
      by_piece (Lexeme k class n) found first go is =
          let t : Token = record { kind = k; class = class; place = place_after file before; from = length before; to = length before + n } in
          let parts = led_parts t (tokens_after file (before ++ b ∷ []) (n - 1) bs) found is in
          let longest = piece_longest (b ∷ bs) k class n (omega arith) first in
          subst (λ xs. Cut file (before ++ b ∷ bs) (length (before ++ b ∷ bs)) (length before) xs) parts.whole
          (token (length before) t parts.inner (stands_after file before (b ∷ bs) k class n (omega arith) first) (go n parts.inner (longest.some, longest.within) parts.is))
      by_piece (Bad flaw) found first go is = cc

pub tokens_cut : (file : ℕ) (bytes : List ℕ) (found : List Token) → tokens_of file bytes ≡ Ok found → Cut file bytes (length bytes) 0 found
unfolding tokens_of
tokens_cut file bytes found is = all_cut file [] 0 bytes found 0 (omega arith) (omega arith) is
