-- By which rule a piece is what it is: by the bytes that stand first.
use Rattle.std.proofs.Common.{◌≡◌, ℕ, ◌+◌, ◌<◌, Bool, true, false, not, cond, ◌&&◌, ◌||◌, ◌==◌, List, [], ◌∷◌, ◌++◌, length, take, drop, Option, Some, None, refl, ap, ◌∙◌, sym, inl, inr, arith}
use Rattle.std.specs.Prelude.{slice_index, option_map}
use Rattle.std.specs.List.{list_all, prefix_len}
use Rattle.std.proofs.Math.Numerals.{one-add}
use Rattle.std.proofs.lemmas.Bool.{and_parts, eqb-true}
use Rattle.c_tokens.specs.declared.piece.Piece.{Piece}
use Rattle.c_tokens.specs.declared.piece.Piece.TheVariants.{Gap}
use Rattle.c_tokens.specs.Quotes.{quoted}
use Rattle.c_tokens.specs.Places.{is_line_feed}
use Rattle.c_tokens.specs.Pieces.{piece, run, comment, comment_len, character, text, mark, slash, is_blank, is_word_byte}
use Rattle.c_tokens.specs.Cuts.{begins_comment, has_end, ends_line}
use Rattle.c_tokens.proofs.Longest.{either}

pub data Rule (z : List ℕ) (found : Piece) : Type 0 where
  by_blanks : is_blank (slice_index z 0) ≡ true → Gap (prefix_len is_blank z) ≡ found → Rule z found
  by_word : is_blank (slice_index z 0) ≡ false → is_word_byte (slice_index z 0) ≡ true → run (take (prefix_len is_word_byte z) z) ≡ found → Rule z found
  by_line : (slice_index z 0 == 47) ≡ true → (slice_index z 1 == 47) ≡ true → Gap (prefix_len (λ b. not (is_line_feed b)) z) ≡ found → Rule z found
  by_block : (slice_index z 0 == 47) ≡ true → (slice_index z 1 == 42) ≡ true → comment (comment_len (drop 2 z)) ≡ found → Rule z found
  by_character : (slice_index z 0 == 39) ≡ true → character (quoted 39 (drop 1 z)) ≡ found → Rule z found
  by_text : (slice_index z 0 == 34) ≡ true → text (quoted 34 (drop 1 z)) ≡ found → Rule z found
  by_mark : is_blank (slice_index z 0) ≡ false → is_word_byte (slice_index z 0) ≡ false → (slice_index z 0 == 39) ≡ false → (slice_index z 0 == 34) ≡ false → begins_comment z ≡ false → mark z ≡ found → Rule z found

-- a first byte 47 is no white space, letter, digit, `_` or quote
bare_slash : (z : List ℕ) → (slice_index z 1 == 47) ≡ false → (slice_index z 1 == 42) ≡ false → begins_comment z ≡ false
bare_slash z line block = rw (line, block) (and_false (slice_index z 0 == 47)) where
  and_false : (t : Bool) → (t && false) ≡ false
  and_false true = refl
  and_false false = refl

bare_other : (z : List ℕ) → (slice_index z 0 == 47) ≡ false → begins_comment z ≡ false
bare_other z is = rw is refl

slash_rule : (z : List ℕ) (found : Piece) → is_blank (slice_index z 0) ≡ false → is_word_byte (slice_index z 0) ≡ false → (slice_index z 0 == 47) ≡ true → slash z ≡ found → Rule z found
slash_rule z found blank is_word first told =
    elim (either (slice_index z 1 == 47) (Gap (prefix_len (λ b. not (is_line_feed b)) z)) (cond (slice_index z 1 == 42) (comment (comment_len (drop 2 z))) (mark z)) found told) [
      | inl h ↦ by_line first h.0 h.1
      | inr h ↦ elim (either (slice_index z 1 == 42) (comment (comment_len (drop 2 z))) (mark z) found h.1) [
        | inl k ↦ by_block first k.0 k.1
        | inr k ↦ let is = eqb-true (slice_index z 0) 47 first in by_mark blank is_word (ap (λ b. b == 39) is) (ap (λ b. b == 34) is) (bare_slash z h.0 k.0) k.1
      ]
    ]

pub rule_of : (z : List ℕ) (found : Piece) → piece z ≡ found → Rule z found
unfolding piece
rule_of z found told =
    let first = slice_index z 0 in
    let after_text = mark z in
    let after_character = cond (first == 34) (text (quoted 34 (drop 1 z))) after_text in
    let after_slash = cond (first == 39) (character (quoted 39 (drop 1 z))) after_character in
    let after_word = cond (first == 47) (slash z) after_slash in
    let after_blank = cond (is_word_byte first) (run (take (prefix_len is_word_byte z) z)) after_word in
    elim (either (is_blank first) (Gap (prefix_len is_blank z)) after_blank found told) [
      | inl h ↦ by_blanks h.0 h.1
      | inr h ↦ elim (either (is_word_byte first) (run (take (prefix_len is_word_byte z) z)) after_word found h.1) [
        | inl w ↦ by_word h.0 w.0 w.1
        | inr w ↦ elim (either (first == 47) (slash z) after_slash found w.1) [
          | inl s ↦ slash_rule z found h.0 w.0 s.0 s.1
          | inr s ↦ elim (either (first == 39) (character (quoted 39 (drop 1 z))) after_character found s.1) [
            | inl q ↦ by_character q.0 q.1
            | inr q ↦ elim (either (first == 34) (text (quoted 34 (drop 1 z))) after_text found q.1) [
              | inl t ↦ by_text t.0 t.1
              | inr t ↦ by_mark h.0 w.0 q.0 t.0 (bare_other z s.0) t.1
            ]
          ]
        ]
      ]
    ]

-- ---- fronts

-- what stands after the longest front that passes
pub front_ends : (p : ℕ → Bool) (z : List ℕ) → p 0 ≡ false → p (slice_index z (prefix_len p z)) ≡ false
front_ends p [] none = none
front_ends p (b ∷ z) none = front_case (p b) refl (front_ends p z none) where
  front_case : (t : Bool) → p b ≡ t → p (slice_index z (prefix_len p z)) ≡ false → p (slice_index (b ∷ z) (cond t (1 + prefix_len p z) 0)) ≡ false
  front_case true is rest = rw one-add rest
  front_case false is rest = is

-- the longest front that passes, where this passes and nothing more does
pub front_is : (p : ℕ → Bool) (inside rest : List ℕ) → list_all p inside ≡ true → prefix_len p rest ≡ 0 → prefix_len p (inside ++ rest) ≡ length inside
front_is p [] rest all stops = stops
front_is p (b ∷ inside) rest all stops =
    let each = and_parts (p b) (list_all p inside) all in
    rw each.0 (let more = front_is p inside rest each.1 stops in omega (arith, more))

pub none_first : (p : ℕ → Bool) (rest : List ℕ) → p (slice_index rest 0) ≡ false → prefix_len p rest ≡ 0
none_first p [] is = refl
none_first p (b ∷ rest) is = rw is refl

pub line_stops : (rest : List ℕ) → ends_line rest ≡ true → prefix_len (λ b. not (is_line_feed b)) rest ≡ 0
line_stops [] is = refl
line_stops (b ∷ rest) is = rw is refl

pub line_ends : (z : List ℕ) → ends_line (drop (prefix_len (λ b. not (is_line_feed b)) z) z) ≡ true
line_ends [] = refl
line_ends (b ∷ z) = line_case (is_line_feed b) refl (line_ends z) where
  line_case : (t : Bool) → is_line_feed b ≡ t → ends_line (drop (prefix_len (λ x. not (is_line_feed x)) z) z) ≡ true → ends_line (drop (cond (not t) (1 + prefix_len (λ x. not (is_line_feed x)) z) 0) (b ∷ z)) ≡ true
  line_case true is rest = is
  line_case false is rest = rw one-add rest

-- ---- comments to `*/`

pub record Closes (z : List ℕ) (n : ℕ) : Type 0 where
  pub inside : List ℕ
  pub rest : List ℕ
  pub is : z ≡ inside ++ 42 ∷ 47 ∷ rest
  pub unended : has_end inside ≡ false
  pub size : n ≡ 2 + length inside

some_more : (o : Option ℕ) (n : ℕ) → option_map (λ k. k + 1) o ≡ Some n → (m : ℕ) × (o ≡ Some m) × (n ≡ m + 1)
some_more None n is = cc
some_more (Some m) n is = (m, refl, (let same : m + 1 ≡ n = cc in sym same))

begins_with : (bs : List ℕ) (quote : ℕ) → 0 < quote → slice_index bs 0 ≡ quote → bs ≡ quote ∷ drop 1 bs
begins_with [] quote some is = absurd (omega (arith, is))
begins_with (b ∷ bs) quote some is = ap (λ x. x ∷ bs) is

and_none : (t : Bool) → (t && false) ≡ false
and_none true = refl
and_none false = refl

-- one byte more within a comment
still_open : (b : ℕ) (inside rest : List ℕ) → (b == 42 && slice_index (inside ++ 42 ∷ 47 ∷ rest) 0 == 47) ≡ false → has_end inside ≡ false → has_end (b ∷ inside) ≡ false
still_open b [] rest apart none = rw (and_none (b == 42)) refl
still_open b (d ∷ inside) rest apart none = rw apart none

pub closes : (z : List ℕ) (n : ℕ) → comment_len z ≡ Some n → Closes z n
unfolding comment_len
closes [] n is = cc
closes (b ∷ bs) n is = closes_case (b == 42 && slice_index bs 0 == 47) refl is (λ m found. closes bs m found) where
  closes_case : (t : Bool) → (b == 42 && slice_index bs 0 == 47) ≡ t → cond t (Some 2) (option_map (λ k. k + 1) (comment_len bs)) ≡ Some n → ((m : ℕ) → comment_len bs ≡ Some m → Closes bs m) → Closes (b ∷ bs) n
  closes_case true both told more =
      let each = and_parts (b == 42) (slice_index bs 0 == 47) both in
      let star : b ≡ 42 = eqb-true b 42 each.0 in
      let stroke : bs ≡ 47 ∷ drop 1 bs = begins_with bs 47 (omega arith) (eqb-true (slice_index bs 0) 47 each.1) in
      let size : 2 ≡ n = cc in
      record { inside = []; rest = drop 1 bs; is = ap (λ x. x ∷ bs) star ∙ ap (λ xs. 42 ∷ xs) stroke; unended = refl; size = sym size }
  closes_case false apart told more =
      let parts = some_more (comment_len bs) n told in
      let inner = more parts.0 parts.1 in
      let here = ap (λ xs. b == 42 && slice_index xs 0 == 47) (sym inner.is) ∙ apart in
      record {
        inside = b ∷ inner.inside;
        rest = inner.rest;
        is = ap (λ xs. b ∷ xs) inner.is;
        unended = still_open b inner.inside inner.rest here inner.unended;
        size = (let size = inner.size in let one = parts.2 in omega (arith, size, one));
      }

pub never_closed : (z : List ℕ) → comment_len z ≡ None → has_end z ≡ false
unfolding comment_len
never_closed [] is = refl
never_closed (b ∷ bs) is = open_case (b == 42 && slice_index bs 0 == 47) (comment_len bs) is (never_closed bs) where
  open_case : (t : Bool) (o : Option ℕ) → cond t (Some 2) (option_map (λ k. k + 1) o) ≡ None → (o ≡ None → has_end bs ≡ false) → (t || has_end bs) ≡ false
  open_case true o told more = cc
  open_case false None told more = more refl
  open_case false (Some m) told more = cc

pub or_parts : (t u : Bool) → (t || u) ≡ false → (t ≡ false) × (u ≡ false)
or_parts true u is = cc
or_parts false u is = (refl, is)

pub stays_open : (z : List ℕ) → has_end z ≡ false → comment_len z ≡ None
unfolding comment_len
stays_open [] is = refl
stays_open (b ∷ bs) is =
    let each = or_parts (b == 42 && slice_index bs 0 == 47) (has_end bs) is in
    rw (each.0, stays_open bs each.1) refl

apart_from_end : (b : ℕ) (inside rest : List ℕ) → (b == 42 && slice_index inside 0 == 47) ≡ false → (b == 42 && slice_index (inside ++ 42 ∷ 47 ∷ rest) 0 == 47) ≡ false
apart_from_end b [] rest is = and_none (b == 42)
apart_from_end b (d ∷ inside) rest is = is

pub closed_by : (inside rest : List ℕ) → has_end inside ≡ false → comment_len (inside ++ 42 ∷ 47 ∷ rest) ≡ Some (2 + length inside)
unfolding comment_len
closed_by [] rest is = refl
closed_by (b ∷ inside) rest is =
    let each = or_parts (b == 42 && slice_index inside 0 == 47) (has_end inside) is in
    let size : 2 + length inside + 1 ≡ 2 + length (b ∷ inside) = omega arith in
    rw (apart_from_end b inside rest each.0, closed_by inside rest each.1) (ap Some size)

pub front_rest : (p : ℕ → Bool) (z : List ℕ) → p 0 ≡ false → p (slice_index (drop (prefix_len p z) z) 0) ≡ false
front_rest p [] none = none
front_rest p (b ∷ z) none = rest_case (p b) refl (front_rest p z none) where
  rest_case : (t : Bool) → p b ≡ t → p (slice_index (drop (prefix_len p z) z) 0) ≡ false → p (slice_index (drop (cond t (1 + prefix_len p z) 0) (b ∷ z)) 0) ≡ false
  rest_case true is rest = rw one-add rest
  rest_case false is rest = is
