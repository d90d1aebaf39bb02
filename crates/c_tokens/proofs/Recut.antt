-- A text that is cut so has these tokens, or is refused so.
use Rattle.std.proofs.Common.{◌≡◌, ℕ, zero, suc, ◌+◌, ◌-◌, ◌<◌, ◌≤◌, Bool, true, false, not, cond, ◌&&◌, ◌||◌, ◌==◌, nat_lt, nat_le, List, [], ◌∷◌, ◌++◌, length, take, drop, append_assoc, append-nil, Option, Some, None, is_some, Ok, Err, refl, ap, ◌∙◌, sym, subst, inl, inr, arith}
use Rattle.std.specs.Prelude.{slice_index}
use Rattle.std.specs.List.{list_all, prefix_len}
use Rattle.std.specs.Char.{is_ascii_digit}
use Rattle.std.specs.Int.{is_in_range}
use Rattle.std.proofs.Math.Numerals.{one-add}
use Rattle.std.proofs.lemmas.Bool.{and_parts, or_cases, eqb-true, eq-eqb, leb-true, cases_lt, not-true}
use Rattle.std.proofs.lemmas.Bool.Decides.{nat_tests}
use Rattle.std.proofs.lemmas.List.{take_at, length-drop, length-take-le, take-append-drop, get_or-take, get_or-drop}
use Rattle.mx_base.specs.declared.places.Place.{Place}
use Rattle.c_tokens.specs.declared.class.Class.{Class}
use Rattle.c_tokens.specs.declared.class.Class.TheVariants as c
use Rattle.c_tokens.specs.declared.class.TokenKind.{TokenKind}
use Rattle.c_tokens.specs.declared.class.TokenKind.TheVariants as kind
use Rattle.c_tokens.specs.declared.token.Token.{Token}
use Rattle.c_tokens.specs.declared.fault.Flaw.{Flaw}
use Rattle.c_tokens.specs.declared.fault.Flaw.TheVariants as f
use Rattle.c_tokens.specs.declared.quotes.Reading.TheVariants.{Plain}
use Rattle.c_tokens.specs.declared.piece.Piece.{Piece}
use Rattle.c_tokens.specs.declared.piece.Piece.TheVariants.{Gap, Lexeme, Bad}
use Rattle.c_tokens.specs.Words.{word_of, words}
use Rattle.c_tokens.specs.Marks.{mark_of_one, mark_of_two, mark_of_three, marks_of_one, marks_of_two, marks_of_three}
use Rattle.c_tokens.specs.Numbers.{number_of}
use Rattle.c_tokens.specs.Quotes.{Quoted, quoted, quoted_from}
use Rattle.c_tokens.specs.Places.{is_line_feed, place_after}
use Rattle.c_tokens.specs.Pieces.{piece, run, comment, comment_len, character, text, mark, slash, is_blank, is_word_byte}
use Rattle.c_tokens.specs.Faults.{fault_at}
use Rattle.c_tokens.specs.Tokens.{led_by, tokens_after, tokens_of}
use Rattle.c_tokens.specs.Lexical.{begins_name, is_name, mark_of, IsQuoted, IsLongest, BeginsNone}
use Rattle.c_tokens.specs.Cuts.{IsSpace, white, line, comment as block_comment, StandsAt, Cut, ends, space, token, begins_comment, has_end, ends_line, IsRun, IsBadNumber, IsLongName, IsOpenText, IsBadByte, FirstBad}
use Rattle.c_tokens.specs.Cuts as cuts
use Rattle.c_tokens.proofs.Tables.{found_passes, one_passes, two_passes, three_passes}
use Rattle.c_tokens.proofs.Spelled.{word_is_name, number_is_word, begins_mark, mark_begins, digit_is_word}
use Rattle.c_tokens.proofs.Quotations.{is_read}
use Rattle.c_tokens.proofs.Rules.{front_is, none_first, line_stops, closed_by, stays_open, or_parts}
use Rattle.c_tokens.proofs.Longest.{token_begins, begins_is_word, mark_is_apart, mark_longest, mark_by, ends_once, is_whole, quote_first}
use Rattle.c_tokens.proofs.BadBytes.{mark_is_none, no_front}
use Rattle.c_tokens.proofs.Cutting.{space_fits, mark_is_no_gap, quote_is_no_word}
use Rattle.c_tokens.proofs.Refusals.{Flawed, reads_front, mark_flaw}
use Rattle.c_tokens.proofs.Turns.{left_of, goes_on, start_turn, gap_turn, lexeme_turn, bad_turn, end_turn}

-- ---- first bytes

-- a letter, a digit or `_` is no white space
blank_is_apart : (b : ℕ) → is_blank b ≡ true → is_word_byte b ≡ true → ⊥
blank_is_apart b blank word =
    elim (or_cases (b == 32 || b == 9 || b == 13) (b == 10) blank) [
      | inl h ↦ elim (or_cases (b == 32 || b == 9) (b == 13) h) [
        | inl k ↦ elim (or_cases (b == 32) (b == 9) k) [
          | inl s ↦ quote_is_no_word b 32 s refl word
          | inr s ↦ quote_is_no_word b 9 s refl word
        ]
        | inr k ↦ quote_is_no_word b 13 k refl word
      ]
      | inr h ↦ quote_is_no_word b 10 h refl word
    ]

word_is_no_blank : (b : ℕ) (t : Bool) → is_blank b ≡ t → is_word_byte b ≡ true → is_blank b ≡ false
word_is_no_blank b true is word = absurd (blank_is_apart b is word)
word_is_no_blank b false is word = is

-- a digit begins no name
name_is_no_digit : (b : ℕ) (t : Bool) → is_ascii_digit b ≡ t → begins_name b ≡ true → is_ascii_digit b ≡ false
name_is_no_digit b false is name = is
name_is_no_digit b true is name =
    let digit = leb-true b 57 (and_parts (nat_le 48 b) (nat_le b 57) is).1 in
    elim (or_cases (is_in_range 65 90 b || is_in_range 97 122 b) (b == 95) name) [
      | inl h ↦ elim (or_cases (is_in_range 65 90 b) (is_in_range 97 122 b) h) [
        | inl k ↦ absurd (let from = leb-true 65 b (and_parts (nat_le 65 b) (nat_le b 90) k).0 in omega (arith, digit, from))
        | inr k ↦ absurd (let from = leb-true 97 b (and_parts (nat_le 97 b) (nat_le b 122) k).0 in omega (arith, digit, from))
      ]
      | inr h ↦ absurd (let same = eqb-true b 95 h in omega (arith, digit, same))
    ]

-- a mark begins with no white space
no_blank_mark : (x : List ℕ) (class : Class) → mark_of x ≡ Some class → not (is_blank (slice_index x 0)) ≡ true
unfolding mark_of_one mark_of_two mark_of_three
no_blank_mark [] class is = cc
no_blank_mark (a ∷ []) class is = one_passes (λ b. not (is_blank b)) marks_of_one a class refl is
no_blank_mark (a ∷ b ∷ []) class is = two_passes (λ x y. not (is_blank x)) marks_of_two a b class refl is
no_blank_mark (a ∷ b ∷ d ∷ []) class is = three_passes (λ x y. not (is_blank x)) marks_of_three a b d class refl is
no_blank_mark (a ∷ b ∷ d ∷ e ∷ rest) class is = cc

-- ---- which rule gives a piece

piece_word : (z : List ℕ) → is_word_byte (slice_index z 0) ≡ true → piece z ≡ run (take (prefix_len is_word_byte z) z)
unfolding piece
piece_word z word = rw (word_is_no_blank (slice_index z 0) (is_blank (slice_index z 0)) refl word, word) refl

bare_mark : (z : List ℕ) (t : Bool) → (slice_index z 0 == 47) ≡ t → begins_comment z ≡ false → cond (slice_index z 0 == 47) (slash z) (mark z) ≡ mark z
bare_mark z true is bare =
    let each = or_parts (slice_index z 1 == 47) (slice_index z 1 == 42) (subst (λ t. (t && (slice_index z 1 == 47 || slice_index z 1 == 42)) ≡ false) is bare) in
    rw (is, each.0, each.1) refl
bare_mark z false is bare = rw is refl

piece_mark : (z : List ℕ) → is_blank (slice_index z 0) ≡ false → is_word_byte (slice_index z 0) ≡ false → (slice_index z 0 == 39) ≡ false → (slice_index z 0 == 34) ≡ false → begins_comment z ≡ false → piece z ≡ mark z
unfolding piece
piece_mark z blank word single double bare = rw (blank, word, single, double) (bare_mark z (slice_index z 0 == 47) refl bare)

piece_character : (rest : List ℕ) → piece (39 ∷ rest) ≡ character (quoted 39 rest)
unfolding piece
piece_character rest = refl

piece_text : (rest : List ℕ) → piece (34 ∷ rest) ≡ text (quoted 34 rest)
unfolding piece
piece_text rest = refl

piece_line : (rest : List ℕ) → piece (47 ∷ 47 ∷ rest) ≡ Gap (prefix_len (λ b. not (is_line_feed b)) (47 ∷ 47 ∷ rest))
unfolding piece
piece_line rest = refl

piece_block : (rest : List ℕ) → piece (47 ∷ 42 ∷ rest) ≡ comment (comment_len rest)
unfolding piece
piece_block rest = refl

-- ---- white space and comments

blanks_skip : (file : ℕ) (before z : List ℕ) → tokens_after file before (prefix_len is_blank z) z ≡ tokens_after file before 0 z
unfolding piece
blanks_skip file before [] = refl
blanks_skip file before (b ∷ z) = skip_case (is_blank b) refl where
  skip_case : (t : Bool) → is_blank b ≡ t → tokens_after file before (cond t (1 + prefix_len is_blank z) 0) (b ∷ z) ≡ tokens_after file before 0 (b ∷ z)
  skip_case true is =
      let size : suc (prefix_len is_blank z) - 1 ≡ prefix_len is_blank z = omega arith in
      rw (is, one-add) (ap (λ n. tokens_after file (before ++ b ∷ []) n z) (sym size))
  skip_case false is = refl

one_blank : (file : ℕ) (before : List ℕ) (b : ℕ) (z : List ℕ) → is_blank b ≡ true → tokens_after file before 0 (b ∷ z) ≡ tokens_after file (before ++ b ∷ []) 0 z
unfolding piece
one_blank file before b z is =
    let size : 1 + prefix_len is_blank z - 1 ≡ prefix_len is_blank z = omega arith in
    rw is (ap (λ n. tokens_after file (before ++ b ∷ []) n z) size ∙ blanks_skip file (before ++ b ∷ []) z)

white_skips : (file : ℕ) (before inside rest : List ℕ) → list_all is_blank inside ≡ true → tokens_after file before 0 (inside ++ rest) ≡ tokens_after file (before ++ inside) 0 rest
white_skips file before [] rest all = ap (λ x. tokens_after file x 0 rest) (sym (append-nil before))
white_skips file before (b ∷ inside) rest all =
    let each = and_parts (is_blank b) (list_all is_blank inside) all in
    one_blank file before b (inside ++ rest) each.0 ∙ white_skips file (before ++ b ∷ []) inside rest each.1 ∙ ap (λ x. tokens_after file x 0 rest) (append_assoc before (b ∷ []) inside)

line_piece : (inside rest : List ℕ) (n : ℕ) → list_all (λ b. not (is_line_feed b)) inside ≡ true → ends_line rest ≡ true → n ≡ 2 + length inside → piece (47 ∷ 47 ∷ inside ++ rest) ≡ Gap n
line_piece inside rest n all ending size =
    let front = front_is (λ b. not (is_line_feed b)) inside rest all (line_stops rest ending) in
    let whole : 1 + (1 + prefix_len (λ b. not (is_line_feed b)) (inside ++ rest)) ≡ n = omega (arith, front, size) in
    piece_line (inside ++ rest) ∙ ap Gap whole

block_piece : (inside rest : List ℕ) (n : ℕ) → has_end inside ≡ false → n ≡ 4 + length inside → piece (47 ∷ 42 ∷ inside ++ 42 ∷ 47 ∷ rest) ≡ Gap n
block_piece inside rest n none size =
    let whole : 2 + length inside + 2 ≡ n = omega (arith, size) in
    piece_block (inside ++ 42 ∷ 47 ∷ rest) ∙ ap comment (closed_by inside rest none) ∙ ap Gap whole

some_there : (from : ℕ) (bytes : List ℕ) (n : ℕ) → 0 < n → n ≤ length (drop from bytes) → from < length bytes
some_there from bytes n some fits = omega (arith, some, fits, length-drop from bytes)

space_turn : (file : ℕ) (bytes : List ℕ) (from n : ℕ) (front : List Token) → IsSpace (drop from bytes) n → led_by front (left_of file bytes from) ≡ led_by front (left_of file bytes (from + n))
space_turn file bytes from n front (white some within all) =
    let z = drop from bytes in
    ap (led_by front) (ap (tokens_after file (take from bytes) 0) (sym (take-append-drop n z)) ∙ white_skips file (take from bytes) (take n z) (drop n z) all ∙ goes_on file bytes from n)
space_turn file bytes from n front (line inside rest is all ending size) =
    let fits = space_fits (drop from bytes) n (line inside rest is all ending size) in
    gap_turn file bytes from front n (some_there from bytes n fits.0 fits.1) (ap piece is ∙ line_piece inside rest n all ending size) fits.0
space_turn file bytes from n front (block_comment inside rest is none size) =
    let fits = space_fits (drop from bytes) n (block_comment inside rest is none size) in
    gap_turn file bytes from front n (some_there from bytes n fits.0 fits.1) (ap piece is ∙ block_piece inside rest n none size) fits.0

-- ---- tokens

run_front : (z : List ℕ) (n : ℕ) → n ≤ length z → list_all is_word_byte (take n z) ≡ true → is_word_byte (slice_index z n) ≡ false → prefix_len is_word_byte z ≡ n
run_front z n fits all ending =
    let next : slice_index (drop n z) 0 ≡ slice_index z n = get_or-drop n z 0 0 ∙ (let here : n + 0 ≡ n = omega arith in ap (slice_index z) here) in
    ap (prefix_len is_word_byte) (sym (take-append-drop n z))
    ∙ front_is is_word_byte (take n z) (drop n z) all (none_first is_word_byte (drop n z) (ap is_word_byte next ∙ ending))
    ∙ length-take-le n z fits

piece_run : (z : List ℕ) (n : ℕ) → n ≤ length z → list_all is_word_byte (take n z) ≡ true → is_word_byte (slice_index z 0) ≡ true → is_word_byte (slice_index z n) ≡ false → piece z ≡ run (take n z)
piece_run z n fits all first ending = piece_word z first ∙ ap (λ m. run (take m z)) (run_front z n fits all ending)

run_number : (x : List ℕ) (n : ℕ) → length x ≡ n → is_ascii_digit (slice_index x 0) ≡ true → is_some (number_of x) ≡ true → run x ≡ Lexeme kind.Number c.Number n
run_number x n size digit number = rw (digit, number) (ap (Lexeme kind.Number c.Number) size)

run_word : (x : List ℕ) (n : ℕ) (class : Class) → length x ≡ n → is_ascii_digit (slice_index x 0) ≡ false → word_of x ≡ Some class → run x ≡ Lexeme kind.Word class n
run_word x n class size digit word = rw (digit, word) (ap (Lexeme kind.Word class) size)

run_name : (x : List ℕ) (n : ℕ) → length x ≡ n → is_ascii_digit (slice_index x 0) ≡ false → word_of x ≡ None → length x ≤ 63 → run x ≡ Lexeme kind.Name c.Name n
run_name x n size digit word short =
    let fits : nat_lt 63 (length x) ≡ false = grind (arith, nat_tests, short) in
    rw (digit, word, fits) (ap (Lexeme kind.Name c.Name) size)

name_of : (x : List ℕ) → is_name x ≡ true → (begins_name (slice_index x 0) ≡ true) × (list_all is_word_byte x ≡ true)
name_of x is = and_parts (begins_name (slice_index x 0)) (list_all is_word_byte x) is

digit_none : (x : List ℕ) → begins_name (slice_index x 0) ≡ true → is_ascii_digit (slice_index x 0) ≡ false
digit_none x name = name_is_no_digit (slice_index x 0) (is_ascii_digit (slice_index x 0)) refl name

one_class : (o : Option Class) (x y : Class) → o ≡ Some x → o ≡ Some y → x ≡ y
one_class o x y is other = cc

mark_piece : (z : List ℕ) (n : ℕ) (class : Class) (found : Piece) → mark z ≡ found → IsLongest z kind.Mark class n → is_word_byte (slice_index z 0) ≡ false → (slice_index z 0 == 39) ≡ false → (slice_index z 0 == 34) ≡ false → found ≡ Lexeme kind.Mark class n
unfolding mark
mark_piece z n class (Gap m) told is word single double = absurd (mark_is_no_gap z m told)
mark_piece z n class (Bad flaw) told is word single double =
    let same = mark_flaw z flaw told in
    absurd (no_front z n class (mark_is_none z (subst (λ x. mark z ≡ Bad x) (sym same) told)) is.within is.is)
mark_piece z n class (Lexeme k d m) told is word single double =
    let some : 0 < length z = (let positive = is.some in let fits = is.within in omega (arith, positive, fits)) in
    let theirs = mark_by z k d m (mark_of_three (slice_index z 0) (slice_index z 1) (slice_index z 2)) (mark_of_two (slice_index z 0) (slice_index z 1)) (mark_of_one (slice_index z 0)) some refl refl refl told in
    let size : m ≡ n = elim (cases_lt m n) [
      | inl less ↦ absurd (theirs.4 n class less is.within is.is)
      | inr more ↦ elim (cases_lt n m) [
        | inl less ↦ absurd (is.longest m kind.Mark d less theirs.2 theirs.3)
        | inr same ↦ omega (arith, more, same)
      ]
    ] in
    let same_class : d ≡ class = one_class (mark_of (take n z)) d class (subst (λ x. mark_of (take x z) ≡ Some d) size theirs.3) is.is in
    ap (λ x. Lexeme x d m) theirs.0 ∙ ap (λ x. Lexeme kind.Mark x m) same_class ∙ ap (Lexeme kind.Mark class) size

quoted_first : (z : List ℕ) (n : ℕ) (quote : ℕ) → 0 < n → n ≤ length z → slice_index (take n z) 0 ≡ quote → z ≡ quote ∷ drop 1 z
quoted_first [] n quote some fits is = absurd (omega (arith, some, fits))
quoted_first (b ∷ z) zero quote some fits is = absurd (omega (arith, some))
quoted_first (b ∷ z) (suc n) quote some fits is = ap (λ x. x ∷ z) is

character_piece : (rest : List ℕ) (m b : ℕ) → m ≤ length rest → IsQuoted 39 (39 ∷ take m rest) (b ∷ []) → piece (39 ∷ rest) ≡ Lexeme kind.Character c.Character (suc m)
unfolding quoted
character_piece rest m b fits whole =
    let found = reads_front 39 rest m (b ∷ []) refl whole in
    let size = ends_once 39 rest (record { bytes = b ∷ []; size = found.0 }) m (b ∷ []) (λ e. let same = eq-eqb 39 92 e in cc) found.1 fits whole in
    let more : found.0 + 1 ≡ suc m = omega (arith, size) in
    piece_character rest ∙ ap character found.1 ∙ ap (Lexeme kind.Character c.Character) more

text_piece : (rest : List ℕ) (m : ℕ) (bytes : List ℕ) → m ≤ length rest → IsQuoted 34 (34 ∷ take m rest) bytes → piece (34 ∷ rest) ≡ Lexeme kind.Text c.Text (suc m)
unfolding quoted
text_piece rest m bytes fits whole =
    let found = reads_front 34 rest m bytes refl whole in
    let size = ends_once 34 rest (record { bytes = bytes; size = found.0 }) m bytes (λ e. let same = eq-eqb 34 92 e in cc) found.1 fits whole in
    let more : found.0 + 1 ≡ suc m = omega (arith, size) in
    piece_text rest ∙ ap text found.1 ∙ ap (Lexeme kind.Text c.Text) more

token_piece : (z : List ℕ) (k : TokenKind) (class : Class) (n : ℕ) → IsLongest z k class n → begins_comment z ≡ false → (is_word_byte (slice_index z 0) ≡ true → is_word_byte (slice_index z n) ≡ false) → piece z ≡ Lexeme k class n
token_piece z kind.Name class n is bare whole =
    let parts = name_of (take n z) is.is.1.is in
    let front : slice_index (take n z) 0 ≡ slice_index z 0 = get_or-take n z 0 0 is.some in
    let first = ap is_word_byte (sym front) ∙ begins_is_word (slice_index (take n z) 0) parts.0 in
    piece_run z n is.within parts.1 first (whole first)
    ∙ run_name (take n z) n (length-take-le n z is.within) (digit_none (take n z) parts.0) is.is.1.free is.is.1.short
    ∙ ap (λ x. Lexeme kind.Name x n) (sym is.is.0)
token_piece z kind.Word class n is bare whole =
    let parts = name_of (take n z) (word_is_name (take n z) class is.is) in
    let front : slice_index (take n z) 0 ≡ slice_index z 0 = get_or-take n z 0 0 is.some in
    let first = ap is_word_byte (sym front) ∙ begins_is_word (slice_index (take n z) 0) parts.0 in
    piece_run z n is.within parts.1 first (whole first) ∙ run_word (take n z) n class (length-take-le n z is.within) (digit_none (take n z) parts.0) is.is
token_piece z kind.Number class n is bare whole =
    let parts = number_is_word (take n z) is.is.1 in
    let front : slice_index (take n z) 0 ≡ slice_index z 0 = get_or-take n z 0 0 is.some in
    let first = ap is_word_byte (sym front) ∙ digit_is_word (slice_index (take n z) 0) parts.1 in
    piece_run z n is.within parts.0 first (whole first)
    ∙ run_number (take n z) n (length-take-le n z is.within) parts.1 is.is.1
    ∙ ap (λ x. Lexeme kind.Number x n) (sym is.is.0)
token_piece z kind.Character class zero is bare whole = absurd (let some = is.some in omega (arith, some))
token_piece z kind.Character class (suc m) is bare whole =
    let begun = quoted_first z (suc m) 39 is.some is.within (token_begins (take (suc m) z) kind.Character class is.is) in
    let fits : m ≤ length (drop 1 z) = (let within = is.within in omega (arith, within, length-drop 1 z)) in
    let whole_is : IsQuoted 39 (39 ∷ take m (drop 1 z)) (is.is.1.0 ∷ []) = subst (λ x. IsQuoted 39 (take (suc m) x) (is.is.1.0 ∷ [])) begun is.is.1.1 in
    ap piece begun ∙ character_piece (drop 1 z) m is.is.1.0 fits whole_is ∙ ap (λ x. Lexeme kind.Character x (suc m)) (sym is.is.0)
token_piece z kind.Text class zero is bare whole = absurd (let some = is.some in omega (arith, some))
token_piece z kind.Text class (suc m) is bare whole =
    let begun = quoted_first z (suc m) 34 is.some is.within (token_begins (take (suc m) z) kind.Text class is.is) in
    let fits : m ≤ length (drop 1 z) = (let within = is.within in omega (arith, within, length-drop 1 z)) in
    let whole_is : IsQuoted 34 (34 ∷ take m (drop 1 z)) is.is.1.0 = subst (λ x. IsQuoted 34 (take (suc m) x) is.is.1.0) begun is.is.1.1 in
    ap piece begun ∙ text_piece (drop 1 z) m is.is.1.0 fits whole_is ∙ ap (λ x. Lexeme kind.Text x (suc m)) (sym is.is.0)
token_piece z kind.Mark class n is bare whole =
    let front : slice_index (take n z) 0 ≡ slice_index z 0 = get_or-take n z 0 0 is.some in
    let apart = mark_is_apart (slice_index z 0) (ap begins_mark (sym front) ∙ mark_begins (take n z) class is.is) in
    let blank = not-true (is_blank (slice_index z 0)) (ap (λ b. not (is_blank b)) (sym front) ∙ no_blank_mark (take n z) class is.is) in
    piece_mark z blank apart.0 apart.1 apart.2 bare ∙ mark_piece z n class (mark z) refl is apart.0 apart.1 apart.2

same_token : (t : Token) (from to : ℕ) (place : Place) → t.from ≡ from → t.to ≡ to → t.place ≡ place → ◌≡◌ {A = Token} (record { kind = t.kind; class = t.class; place = place; from = from; to = to }) t
same_token t from to place from_is to_is place_is =
    ap (λ x. record { kind = t.kind; class = t.class; place = x; from = from; to = to }) (sym place_is)
    ∙ ap (λ x. record { kind = t.kind; class = t.class; place = t.place; from = x; to = to }) (sym from_is)
    ∙ ap (λ x. record { kind = t.kind; class = t.class; place = t.place; from = t.from; to = x }) (sym to_is)

token_turn : (file : ℕ) (bytes : List ℕ) (from : ℕ) (t : Token) (front : List Token) → StandsAt file bytes from t → led_by front (left_of file bytes from) ≡ led_by (front ++ t ∷ []) (left_of file bytes t.to)
token_turn file bytes from t front at =
    let n = t.to - from in
    let some = at.some in
    let within = at.within in
    let start = at.from_is in
    let longest = subst (λ k. IsLongest (drop k bytes) t.kind t.class (t.to - k)) start at.longest in
    let to_is : t.to ≡ from + n = omega (arith, some, start) in
    let here : from < length bytes = omega (arith, some, start, within) in
    lexeme_turn file bytes from front t.kind t.class n here (token_piece (drop from bytes) t.kind t.class n longest at.bare at.whole) longest.some
    ∙ ap (λ x. led_by (front ++ x ∷ []) (left_of file bytes (from + n))) (same_token t from (from + n) (place_after file (take from bytes)) start to_is at.place_is)
    ∙ ap (λ k. led_by (front ++ t ∷ []) (left_of file bytes k)) (sym to_is)

-- ---- a text

recut : (file : ℕ) (bytes : List ℕ) (to from : ℕ) (found front : List Token) → Cut file bytes to from found → led_by front (left_of file bytes from) ≡ led_by (front ++ found) (left_of file bytes to)
recut file bytes to from found front ends = ap (λ x. led_by x (left_of file bytes to)) (sym (append-nil front))
recut file bytes to from found front (space from' n found' gap more) = space_turn file bytes from' n front gap ∙ recut file bytes to (from' + n) found' front more
recut file bytes to from found front (token from' t found' here more) =
    token_turn file bytes from' t front here ∙ recut file bytes to t.to found' (front ++ t ∷ []) more ∙ ap (λ x. led_by x (left_of file bytes to)) (append_assoc front (t ∷ []) found')

pub cut_has : (file : ℕ) (bytes : List ℕ) (found : List Token) → Cut file bytes (length bytes) 0 found → tokens_of file bytes ≡ Ok found
unfolding tokens_of
cut_has file bytes found cut =
    let end : length bytes ≤ length bytes = omega arith in
    start_turn file bytes ∙ recut file bytes (length bytes) 0 found [] cut ∙ end_turn file bytes (length bytes) found end

-- ---- what is refused

word_is_short : (x : List ℕ) (w : Option Class) → word_of x ≡ w → 63 < length x → word_of x ≡ None
unfolding word_of
word_is_short x None is long = is
word_is_short x (Some class) is long =
    let short = leb-true (length x) 63 (found_passes (λ s. nat_le (length s) 63) words x class refl is) in
    absurd (omega (arith, short, long))

run_piece : (z run' : List ℕ) → IsRun z run' → piece z ≡ run run'
run_piece z run' is =
    let front : prefix_len is_word_byte z ≡ length run' = ap (prefix_len is_word_byte) is.is ∙ front_is is_word_byte run' is.rest is.all (none_first is_word_byte is.rest is.ends) in
    piece_word z is.some ∙ ap (λ n. run (take n z)) front ∙ ap (λ x. run (take (length run') x)) is.is ∙ ap run (take_at run' is.rest (length run') refl)

run_bad : (x : List ℕ) → is_ascii_digit (slice_index x 0) ≡ true → number_of x ≡ None → run x ≡ Bad f.BadNumber
run_bad x digit none = rw (digit, none) refl

run_long : (x : List ℕ) → is_ascii_digit (slice_index x 0) ≡ false → word_of x ≡ None → 63 < length x → run x ≡ Bad f.LongName
run_long x digit word long =
    let over : nat_lt 63 (length x) ≡ true = grind (arith, nat_tests, long) in
    rw (digit, word, over) refl

text_open : (rest : List ℕ) (o : Option Quoted) → quoted_from 34 Plain rest ≡ o → BeginsNone (34 ∷ rest) → text o ≡ Bad f.OpenText
text_open rest None is none = refl
text_open rest (Some q) is none =
    let read = is_read 34 Plain rest q tt is in
    let within = read.within in
    absurd (none (q.size + 1) kind.Text c.Text (omega (arith, within)) (refl, (q.bytes, is_whole 34 rest q is)))

one_byte : (bytes : List ℕ) → length bytes ≡ 1 → (b : ℕ) × (bytes ≡ b ∷ [])
one_byte [] one = absurd (omega arith)
one_byte (b ∷ []) one = (b, refl)
one_byte (b ∷ d ∷ bytes) one = absurd (omega (arith, one))

single_open : (rest : List ℕ) (q : Quoted) (single : Bool) → quoted_from 39 Plain rest ≡ Some q → (length q.bytes == 1) ≡ single → BeginsNone (39 ∷ rest) → cond single (Lexeme kind.Character c.Character (q.size + 1)) (Bad f.OpenText) ≡ Bad f.OpenText
single_open rest q false is one none = refl
single_open rest q true is one none =
    let read = is_read 39 Plain rest q tt is in
    let within = read.within in
    let byte = one_byte q.bytes (eqb-true (length q.bytes) 1 one) in
    absurd (none (q.size + 1) kind.Character c.Character (omega (arith, within)) (refl, (byte.0, subst (λ bytes. IsQuoted 39 (take (q.size + 1) (39 ∷ rest)) bytes) byte.1 (is_whole 39 rest q is))))

character_open : (rest : List ℕ) (o : Option Quoted) → quoted_from 39 Plain rest ≡ o → BeginsNone (39 ∷ rest) → character o ≡ Bad f.OpenText
character_open rest None is none = refl
character_open rest (Some q) is none = single_open rest q (length q.bytes == 1) is refl none

first_is : (z : List ℕ) (b : ℕ) → 0 < length z → slice_index z 0 ≡ b → z ≡ b ∷ drop 1 z
first_is z b some is = quote_first z b some (eq-eqb (slice_index z 0) b is)

open_piece : (z : List ℕ) → 0 < length z → IsOpenText z → piece z ≡ Bad f.OpenText
unfolding quoted
open_piece z some (cuts.text first none) =
    let begun = first_is z 34 some first in
    ap piece begun ∙ piece_text (drop 1 z) ∙ text_open (drop 1 z) (quoted_from 34 Plain (drop 1 z)) refl (subst BeginsNone begun none)
open_piece z some (cuts.character first none) =
    let begun = first_is z 39 some first in
    ap piece begun ∙ piece_character (drop 1 z) ∙ character_open (drop 1 z) (quoted_from 39 Plain (drop 1 z)) refl (subst BeginsNone begun none)
open_piece z some (cuts.comment rest is none) = ap piece is ∙ piece_block rest ∙ ap comment (stays_open rest none)

-- no comment begins where no mark does
none_is_bare : (z : List ℕ) (t : Bool) → 0 < length z → begins_comment z ≡ t → BeginsNone z → begins_comment z ≡ false
unfolding mark_of_one
none_is_bare z false some is none = is
none_is_bare z true some is none =
    let first = (and_parts (slice_index z 0 == 47) (slice_index z 1 == 47 || slice_index z 1 == 42) is).0 in
    let begun = quote_first z 47 some first in
    absurd (none 1 kind.Mark c.Slash (omega (arith, some)) (ap (λ x. mark_of (take 1 x)) begun))

mark_is_bad : (z : List ℕ) (found : Piece) → 0 < length z → mark z ≡ found → is_word_byte (slice_index z 0) ≡ false → (slice_index z 0 == 39) ≡ false → (slice_index z 0 == 34) ≡ false → BeginsNone z → found ≡ Bad f.BadByte
mark_is_bad z (Gap m) some told word single double none = absurd (mark_is_no_gap z m told)
mark_is_bad z (Bad flaw) some told word single double none = ap Bad (sym (mark_flaw z flaw told))
mark_is_bad z (Lexeme k d m) some told word single double none =
    let is = mark_longest z k d m some word single double told in
    absurd (none m k d is.within is.is)

bad_piece : (z : List ℕ) → 0 < length z → IsBadByte z → piece z ≡ Bad f.BadByte
bad_piece z some is =
    let quotes = or_parts (slice_index z 0 == 34) (slice_index z 0 == 39) is.quote in
    piece_mark z is.blank is.word quotes.1 quotes.0 (none_is_bare z (begins_comment z) some refl is.none)
    ∙ mark_is_bad z (mark z) some refl is.word quotes.1 quotes.0 is.none

flaw_piece : (z : List ℕ) (flaw : Flaw) → 0 < length z → Flawed flaw z → piece z ≡ Bad flaw
flaw_piece z f.BadByte some is = bad_piece z some is
flaw_piece z f.BadNumber some is = run_piece z is.run is.is ∙ run_bad is.run is.digit is.none
flaw_piece z f.LongName some is = run_piece z is.run is.is ∙ run_long is.run is.letter (word_is_short is.run (word_of is.run) refl is.long) is.long
flaw_piece z f.OpenText some is = open_piece z some is

pub bad_refuses : (file : ℕ) (bytes : List ℕ) (flaw : Flaw) (place : Place) → FirstBad (Flawed flaw) file bytes place → tokens_of file bytes ≡ Err (fault_at flaw place)
unfolding tokens_of
bad_refuses file bytes flaw place first =
    let within = first.within in
    let some : 0 < length (drop first.from bytes) = omega (arith, within, length-drop first.from bytes) in
    start_turn file bytes
    ∙ recut file bytes first.from 0 first.found [] first.cut
    ∙ bad_turn file bytes first.from first.found flaw within (flaw_piece (drop first.from bytes) flaw some first.flawed)
    ∙ ap (λ p. Err (fault_at flaw p)) (sym first.place_is)
