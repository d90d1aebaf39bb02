-- What stands where a text is refused.
use Rattle.std.proofs.Common.{◌≡◌, ℕ, zero, suc, ◌+◌, ◌-◌, ◌<◌, ◌≤◌, Bool, true, false, cond, ◌==◌, List, [], ◌∷◌, ◌++◌, length, take, drop, append_assoc, Option, Some, None, is_some, Ok, Err, refl, ap, ◌∙◌, sym, subst, arith}
use Rattle.std.specs.Prelude.{slice_index}
use Rattle.std.specs.List.{prefix_len}
use Rattle.std.proofs.lemmas.Bool.{eqb-true, eq-eqb, ltb-true}
use Rattle.std.proofs.lemmas.List.{drop_at, take_at, length-append, length-drop, take-append-drop}
use Rattle.mx_base.specs.declared.places.Place.{Place}
use Rattle.c_tokens.specs.declared.class.Class.{Class}
use Rattle.c_tokens.specs.declared.class.Class.TheVariants as c
use Rattle.c_tokens.specs.declared.class.TokenKind.TheVariants as kind
use Rattle.c_tokens.specs.declared.token.Token.{Token}
use Rattle.c_tokens.specs.declared.fault.Flaw.{Flaw}
use Rattle.c_tokens.specs.declared.fault.Flaw.TheVariants as f
use Rattle.c_tokens.specs.declared.fault.TokenFault.{TokenFault}
use Rattle.c_tokens.specs.declared.fault.TokenFault.TheVariants as fault
use Rattle.c_tokens.specs.declared.quotes.Reading.TheVariants.{Plain}
use Rattle.c_tokens.specs.declared.piece.Piece.{Piece}
use Rattle.c_tokens.specs.declared.piece.Piece.TheVariants.{Gap, Lexeme, Bad}
use Rattle.c_tokens.specs.declared.numbers.Number.{Number}
use Rattle.c_tokens.specs.Marks.{mark_of_one, mark_of_two, mark_of_three}
use Rattle.c_tokens.specs.Numbers.{number_of}
use Rattle.c_tokens.specs.Quotes.{Quoted, quoted, quoted_from}
use Rattle.c_tokens.specs.Places.{place_after}
use Rattle.c_tokens.specs.Pieces.{piece, run, comment, comment_len, character, text, mark, or_shorter, is_blank, is_word_byte}
use Rattle.c_tokens.specs.Faults.{fault_at}
use Rattle.c_tokens.specs.Tokens.{Tokens, led_by, with_piece, tokens_after, tokens_of}
use Rattle.c_tokens.specs.Lexical.{IsQuoted, BeginsNone}
use Rattle.c_tokens.specs.Cuts.{IsSpace, StandsAt, Cut, ends, space, token, IsRun, IsBadNumber, IsLongName, IsOpenText, IsBadByte, FirstBad}
use Rattle.c_tokens.specs.Cuts as cuts
use Rattle.c_tokens.proofs.Quotations.{is_quoted}
use Rattle.c_tokens.proofs.Rules.{by_blanks, by_word, by_line, by_block, by_character, by_text, by_mark, rule_of, front_rest, never_closed}
use Rattle.c_tokens.proofs.Longest.{piece_longest, all_in_prefix, token_is_character, token_is_text, quote_first}
use Rattle.c_tokens.proofs.BadBytes.{mark_is_none, mark_begins_none, empty_is_none}
use Rattle.c_tokens.proofs.Cutting.{number, no_number, reserved, long, name, run_rule, gap_is_space, space_fits, stands_after, space_after, two_first}

-- what each flaw is, by the bytes
abbrev pub Flawed : Flaw → List ℕ → Type 0
Flawed f.BadByte z = IsBadByte z
Flawed f.BadNumber z = IsBadNumber z
Flawed f.LongName z = IsLongName z
Flawed f.OpenText z = IsOpenText z

-- ---- runs

no_some : (o : Option Number) → is_some o ≡ false → o ≡ None
no_some None is = refl
no_some (Some n) is = cc

front_run : (z : List ℕ) → is_word_byte (slice_index z 0) ≡ true → IsRun z (take (prefix_len is_word_byte z) z)
front_run z first = record {
  rest = drop (prefix_len is_word_byte z) z;
  is = sym (take-append-drop (prefix_len is_word_byte z) z);
  some = first;
  all = all_in_prefix is_word_byte z;
  ends = front_rest is_word_byte z refl;
}

run_flaw : (z word : List ℕ) (flaw : Flaw) → IsRun z word → run word ≡ Bad flaw → Flawed flaw z
run_flaw z word flaw whole told =
    elim (run_rule word (Bad flaw) told) [
      | number d s is ↦ cc
      | no_number d s is ↦ (let same : f.BadNumber ≡ flaw = cc in subst (λ x. Flawed x z) same (record { run = word; is = whole; digit = d; none = no_some (number_of word) s }))
      | reserved class d w is ↦ cc
      | long d l is ↦ (let same : f.LongName ≡ flaw = cc in subst (λ x. Flawed x z) same (record { run = word; is = whole; letter = d; long = ltb-true 63 (length word) l }))
      | name d is ↦ cc
    ]

-- ---- texts, characters and comments

pub reads_front : (quote : ℕ) (rest : List ℕ) (m : ℕ) (bytes : List ℕ) → (quote == 92) ≡ false → IsQuoted quote (quote ∷ take m rest) bytes → (k : ℕ) × (quoted_from quote Plain rest ≡ Some (record { bytes = bytes; size = k }))
reads_front quote rest m bytes other whole =
    let inner : take m rest ≡ whole.source ++ quote ∷ [] = cc (whole.is) in
    let split : whole.source ++ quote ∷ drop m rest ≡ rest = sym (append_assoc whole.source (quote ∷ []) (drop m rest)) ∙ ap (λ xs. xs ++ drop m rest) (sym inner) ∙ take-append-drop m rest in
    (length whole.source + 1, ap (quoted_from quote Plain) (sym split) ∙ is_quoted quote whole.source bytes (drop m rest) (λ e. let same = eq-eqb quote 92 e in cc) whole.spells)

text_flaw : (o : Option Quoted) (flaw : Flaw) → text o ≡ Bad flaw → (o ≡ None) × (f.OpenText ≡ flaw)
text_flaw None flaw is = (refl, (let same : f.OpenText ≡ flaw = cc in same))
text_flaw (Some q) flaw is = cc

comment_flaw : (o : Option ℕ) (flaw : Flaw) → comment o ≡ Bad flaw → (o ≡ None) × (f.OpenText ≡ flaw)
comment_flaw None flaw is = (refl, (let same : f.OpenText ≡ flaw = cc in same))
comment_flaw (Some n) flaw is = cc

single_flaw : (k : ℕ) (single : Bool) (flaw : Flaw) → cond single (Lexeme kind.Character c.Character k) (Bad f.OpenText) ≡ Bad flaw → f.OpenText ≡ flaw
single_flaw k true flaw is = cc
single_flaw k false flaw is = cc

character_flaw : (o : Option Quoted) (flaw : Flaw) → character o ≡ Bad flaw → f.OpenText ≡ flaw
character_flaw None flaw is = cc
character_flaw (Some q) flaw is = single_flaw (q.size + 1) (length q.bytes == 1) flaw is

text_begins_none : (rest : List ℕ) → quoted_from 34 Plain rest ≡ None → BeginsNone (34 ∷ rest)
text_begins_none rest none zero k class fits is = empty_is_none k class is
text_begins_none rest none (suc m) k class fits is =
    let whole = token_is_text (34 ∷ take m rest) k class refl is in
    let found = (reads_front 34 rest m whole.0 refl whole.1).1 in
    cc

no_character : (o : Option Quoted) (b k : ℕ) (flaw : Flaw) → o ≡ Some (record { bytes = b ∷ []; size = k }) → character o ≡ Bad flaw → ⊥
no_character o b k flaw is told =
    let given : character (Some (record { bytes = b ∷ []; size = k })) ≡ Bad flaw = subst (λ x. character x ≡ Bad flaw) is told in cc

character_begins_none : (rest : List ℕ) (flaw : Flaw) → character (quoted_from 39 Plain rest) ≡ Bad flaw → BeginsNone (39 ∷ rest)
character_begins_none rest flaw told zero k class fits is = empty_is_none k class is
character_begins_none rest flaw told (suc m) k class fits is =
    let whole = token_is_character (39 ∷ take m rest) k class refl is in
    let found = reads_front 39 rest m (whole.0 ∷ []) refl whole.1 in
    no_character (quoted_from 39 Plain rest) whole.0 found.0 flaw found.1 told

-- ---- marks

shorter_flaw : (three two one : Option Class) (flaw : Flaw) → or_shorter 3 three (or_shorter 2 two (or_shorter 1 one (Bad f.BadByte))) ≡ Bad flaw → f.BadByte ≡ flaw
shorter_flaw (Some x) two one flaw is = cc
shorter_flaw None (Some x) one flaw is = cc
shorter_flaw None None (Some x) flaw is = cc
shorter_flaw None None None flaw is = cc

pub mark_flaw : (z : List ℕ) (flaw : Flaw) → mark z ≡ Bad flaw → f.BadByte ≡ flaw
unfolding mark
mark_flaw z flaw is = shorter_flaw (mark_of_three (slice_index z 0) (slice_index z 1) (slice_index z 2)) (mark_of_two (slice_index z 0) (slice_index z 1)) (mark_of_one (slice_index z 0)) flaw is

mark_is_bad : (z : List ℕ) (flaw : Flaw) → is_blank (slice_index z 0) ≡ false → is_word_byte (slice_index z 0) ≡ false → (slice_index z 0 == 39) ≡ false → (slice_index z 0 == 34) ≡ false → mark z ≡ Bad flaw → Flawed flaw z
mark_is_bad z flaw blank word single double told =
    let same = mark_flaw z flaw told in
    let none = mark_is_none z (subst (λ x. mark z ≡ Bad x) (sym same) told) in
    subst (λ x. Flawed x z) same (record { blank = blank; quote = rw (double, single) refl; word = word; none = mark_begins_none z word single double none })

pub flaw_stands : (z : List ℕ) (flaw : Flaw) → 0 < length z → piece z ≡ Bad flaw → Flawed flaw z
unfolding quoted
flaw_stands z flaw some told =
    elim (rule_of z (Bad flaw) told) [
      | by_blanks first is ↦ cc
      | by_word blank first is ↦ run_flaw z (take (prefix_len is_word_byte z) z) flaw (front_run z first) is
      | by_line first second is ↦ cc
      | by_block first second is ↦
          (let begun = two_first z 47 42 (omega arith) (omega arith) (eqb-true (slice_index z 0) 47 first) (eqb-true (slice_index z 1) 42 second) in
          let parts = comment_flaw (comment_len (drop 2 z)) flaw is in
          subst (λ x. Flawed x z) parts.1 (cuts.comment (drop 2 z) begun (never_closed (drop 2 z) parts.0)))
      | by_character first is ↦
          (let begun = quote_first z 39 some first in
          subst (λ x. Flawed x z) (character_flaw (quoted 39 (drop 1 z)) flaw is) (cuts.character (eqb-true (slice_index z 0) 39 first) (subst BeginsNone (sym begun) (character_begins_none (drop 1 z) flaw is))))
      | by_text first is ↦
          (let begun = quote_first z 34 some first in
          let parts = text_flaw (quoted 34 (drop 1 z)) flaw is in
          subst (λ x. Flawed x z) parts.1 (cuts.text (eqb-true (slice_index z 0) 34 first) (subst BeginsNone (sym begun) (text_begins_none (drop 1 z) parts.0))))
      | by_mark blank word single double bare is ↦ mark_is_bad z flaw blank word single double is
    ]

-- ---- the first piece that is no token

record StopsAt (file : ℕ) (bytes : List ℕ) (from : ℕ) (told : TokenFault) : Type 0 where
  to : ℕ
  found : List Token
  cut : Cut file bytes to from found
  within : to < length bytes
  flaw : Flaw
  is : piece (drop to bytes) ≡ Bad flaw
  told_is : fault_at flaw (place_after file (take to bytes)) ≡ told

space_on : (file : ℕ) (bytes : List ℕ) (from n : ℕ) (told : TokenFault) → IsSpace (drop from bytes) n → StopsAt file bytes (from + n) told → StopsAt file bytes from told
space_on file bytes from n told gap at = record { to = at.to; found = at.found; cut = space from n at.found gap at.cut; within = at.within; flaw = at.flaw; is = at.is; told_is = at.told_is }

token_on : (file : ℕ) (bytes : List ℕ) (from : ℕ) (t : Token) (told : TokenFault) → StandsAt file bytes from t → StopsAt file bytes t.to told → StopsAt file bytes from told
token_on file bytes from t told here at = record { to = at.to; found = t ∷ at.found; cut = token from t at.found here at.cut; within = at.within; flaw = at.flaw; is = at.is; told_is = at.told_is }

one_before : (t : Token) (rest : Tokens) (told : TokenFault) → led_by (t ∷ []) rest ≡ Err told → rest ≡ Err told
one_before t (Ok found) told is = cc
one_before t (Err other) told is = is

stops_here : (file : ℕ) (before z : List ℕ) (flaw : Flaw) (told : TokenFault) → 0 < length z → piece z ≡ Bad flaw → fault_at flaw (place_after file before) ≡ told → StopsAt file (before ++ z) (length before) told
stops_here file before z flaw told some is at = record {
  to = length before;
  found = [];
  cut = ends;
  within = omega (arith, some, length-append before z);
  flaw = flaw;
  is = subst (λ x. piece x ≡ Bad flaw) (sym (drop_at before z (length before) refl)) is;
  told_is = ap (λ x. fault_at flaw (place_after file x)) (take_at before z (length before) refl) ∙ at;
}

all_stop : (file : ℕ) (before : List ℕ) (left : ℕ) (z : List ℕ) (told : TokenFault) (from : ℕ) → from ≡ length before + left → left ≤ length z → tokens_after file before left z ≡ Err told → StopsAt file (before ++ z) from told
all_stop file before left [] told from at fits is = cc
all_stop file before (suc left) (b ∷ bs) told from at fits is =
    subst (λ xs. StopsAt file xs from told) (append_assoc before (b ∷ []) bs)
    (all_stop file (before ++ b ∷ []) left bs told from (omega (arith, at, length-append before (b ∷ []))) (omega (arith, fits)) is)
all_stop file before zero (b ∷ bs) told from at fits is =
    let here : length before ≡ from = omega (arith, at) in
    subst (λ k. StopsAt file (before ++ b ∷ bs) k told) here
    (by_piece (piece (b ∷ bs)) refl (λ n inside same. subst (λ xs. StopsAt file xs (length before + n) told) (append_assoc before (b ∷ []) bs) (all_stop file (before ++ b ∷ []) (n - 1) bs told (length before + n) (omega (arith, inside.0, length-append before (b ∷ []))) (omega (arith, inside.1)) same)) is) where
      by_piece : (first : Piece) → piece (b ∷ bs) ≡ first → ((n : ℕ) → (0 < n) × (n ≤ length (b ∷ bs)) → tokens_after file (before ++ b ∷ []) (n - 1) bs ≡ Err told → StopsAt file (before ++ b ∷ bs) (length before + n) told) → with_piece first file before (λ left. tokens_after file (before ++ b ∷ []) left bs) ≡ Err told → StopsAt file (before ++ b ∷ bs) (length before) told
      by_piece (Gap n) first go is =
          let gap = gap_is_space (b ∷ bs) n (omega arith) first in
          space_on file (before ++ b ∷ bs) (length before) n told (space_after before (b ∷ bs) n gap) (go n (space_fits (b ∷ bs) n gap) is)
      by_piece (Lexeme k class n) first go is =
          let t : Token = record { kind = k; class = class; place = place_after file before; from = length before; to = length before + n } in
          let longest = piece_longest (b ∷ bs) k class n (omega arith) first in
          token_on file (before ++ b ∷ bs) (length before) t told (stands_after file before (b ∷ bs) k class n (omega arith) first)
          (go n (longest.some, longest.within) (one_before t (tokens_after file (before ++ b ∷ []) (n - 1) bs) told is))
      by_piece (Bad flaw) first go is = stops_here file before (b ∷ bs) flaw told (omega arith) first (let same : fault_at flaw (place_after file before) ≡ told = cc in same)

-- the flaw and the place that a fault tells
flaw_in : TokenFault → Flaw
flaw_in (fault.BadByte place) = f.BadByte
flaw_in (fault.BadNumber place) = f.BadNumber
flaw_in (fault.LongName place) = f.LongName
flaw_in (fault.OpenText place) = f.OpenText
flaw_in fault.OutOfMemory = f.BadByte

place_in : TokenFault → Place
place_in (fault.BadByte place) = place
place_in (fault.BadNumber place) = place
place_in (fault.LongName place) = place
place_in (fault.OpenText place) = place
place_in fault.OutOfMemory = record { file = 0; line = 0; col = 0 }

told_flaw : (flaw : Flaw) (place : Place) → (flaw_in (fault_at flaw place) ≡ flaw) × (place_in (fault_at flaw place) ≡ place)
unfolding flaw_in place_in
told_flaw f.BadByte place = (refl, refl)
told_flaw f.BadNumber place = (refl, refl)
told_flaw f.LongName place = (refl, refl)
told_flaw f.OpenText place = (refl, refl)

pub first_bad : (file : ℕ) (bytes : List ℕ) (flaw : Flaw) (place : Place) → tokens_of file bytes ≡ Err (fault_at flaw place) → FirstBad (Flawed flaw) file bytes place
unfolding tokens_of
first_bad file bytes flaw place is =
    let at = all_stop file [] 0 bytes (fault_at flaw place) 0 (omega arith) (omega arith) is in
    let stands = place_after file (take at.to bytes) in
    let same_flaw : at.flaw ≡ flaw = sym (told_flaw at.flaw stands).0 ∙ ap flaw_in at.told_is ∙ (told_flaw flaw place).0 in
    let same_place : place ≡ stands = sym (told_flaw flaw place).1 ∙ ap place_in (sym at.told_is) ∙ (told_flaw at.flaw stands).1 in
    let some : 0 < length (drop at.to bytes) = (let within = at.within in omega (arith, within, length-drop at.to bytes)) in
    record {
      from = at.to;
      found = at.found;
      cut = at.cut;
      within = at.within;
      place_is = same_place;
      flawed = subst (λ x. Flawed x (drop at.to bytes)) same_flaw (flaw_stands (drop at.to bytes) at.flaw some at.is);
    }
