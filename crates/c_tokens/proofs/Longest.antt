-- A token of a text is the longest that begins where it does.
use Rattle.std.proofs.Common.{◌≡◌, ◌≢◌, ℕ, zero, suc, ◌+◌, ◌<◌, ◌≤◌, length-append, Bool, true, false, not, cond, ◌&&◌, ◌||◌, ◌==◌, ◌⊎◌, nat_lt, List, [], ◌∷◌, ◌++◌, length, take, drop, Option, Some, None, is_some, refl, ap, ◌∙◌, sym, subst, inl, inr, arith, add-one, append_assoc}
use Rattle.std.specs.Prelude.{slice_index}
use Rattle.std.specs.List.{list_all, prefix_len}
use Rattle.std.specs.Char.{is_ascii_digit}
use Rattle.std.specs.Int.{is_in_range}
use Rattle.std.proofs.Math.Numerals.{one-add}
use Rattle.std.proofs.lemmas.Bool.{and_parts, and_from, cases_lt, both_ways, not-true, eqb-true, eq-eqb, ltb-false}
use Rattle.std.proofs.lemmas.List.{take-append-drop, get_or-take, length-take-le}
use Rattle.std.proofs.lemmas.List.Sums.{prefix_len-le-length}
use Rattle.std.proofs.lemmas.List.Folds.{length-prefix_len}
use Rattle.c_tokens.specs.declared.class.Class.{Class}
use Rattle.c_tokens.specs.declared.class.Class.TheVariants as c
use Rattle.c_tokens.specs.declared.class.TokenKind.{TokenKind}
use Rattle.c_tokens.specs.declared.class.TokenKind.TheVariants.{Name, Word, Number, Character, Text, Mark}
use Rattle.c_tokens.specs.declared.fault.Flaw.TheVariants.{BadByte, LongName, OpenText}
use Rattle.c_tokens.specs.declared.quotes.Reading.TheVariants.{Plain}
use Rattle.c_tokens.specs.declared.piece.Piece.{Piece}
use Rattle.c_tokens.specs.declared.piece.Piece.TheVariants.{Gap, Lexeme, Bad}
use Rattle.c_tokens.specs.Words.{word_of}
use Rattle.c_tokens.specs.Marks.{mark_of_one, mark_of_two, mark_of_three}
use Rattle.c_tokens.specs.Numbers.{number_of}
use Rattle.c_tokens.specs.Quotes.{Quoted, quoted, quoted_from}
use Rattle.c_tokens.specs.Places.{is_line_feed}
use Rattle.c_tokens.specs.Pieces.{piece, run, numeral, named, comment, comment_len, character, text, mark, or_shorter, slash, is_blank, is_word_byte}
use Rattle.c_tokens.specs.Lexical.{begins_name, is_name, mark_of, IsQuoted, IsToken, IsLongest}
use Rattle.c_tokens.proofs.Spelled.{word_is_name, number_is_word, begins_mark, mark_begins, two_whole, three_whole, digit_is_word}
use Rattle.c_tokens.proofs.Quotations.{is_read, is_quoted}

-- what the first byte of a token says of its kind
abbrev pub Begins : TokenKind → ℕ → Type 0
Begins Name b = begins_name b ≡ true
Begins Word b = begins_name b ≡ true
Begins Number b = is_ascii_digit b ≡ true
Begins Character b = b ≡ 39
Begins Text b = b ≡ 34
Begins Mark b = begins_mark b ≡ true

pub token_begins : (x : List ℕ) (kind : TokenKind) (class : Class) → IsToken kind class x → Begins kind (slice_index x 0)
token_begins x Name class is = (and_parts (begins_name (slice_index x 0)) (list_all is_word_byte x) is.1.is).0
token_begins x Word class is = (and_parts (begins_name (slice_index x 0)) (list_all is_word_byte x) (word_is_name x class is)).0
token_begins x Number class is = (number_is_word x is.1).1
token_begins x Character class is = ap (λ xs. slice_index xs 0) is.1.1.is
token_begins x Text class is = ap (λ xs. slice_index xs 0) is.1.1.is
token_begins x Mark class is = mark_begins x class is

-- a byte of a word is a digit or begins a name
begins_or_digit : (digit upper lower line : Bool) → ((upper || lower) || line) ≡ true → (((digit || upper) || lower) || line) ≡ true
begins_or_digit true upper lower line is = refl
begins_or_digit false upper lower line is = is

pub begins_is_word : (b : ℕ) → begins_name b ≡ true → is_word_byte b ≡ true
begins_is_word b is = begins_or_digit (is_in_range 48 57 b) (is_in_range 65 90 b) (is_in_range 97 122 b) (b == 95) is

no_digit_begins : (digit upper lower line : Bool) → digit ≡ false → (((digit || upper) || lower) || line) ≡ true → ((upper || lower) || line) ≡ true
no_digit_begins true upper lower line none is = cc
no_digit_begins false upper lower line none is = is

pub word_begins : (b : ℕ) → is_ascii_digit b ≡ false → is_word_byte b ≡ true → begins_name b ≡ true
word_begins b none is = no_digit_begins (is_in_range 48 57 b) (is_in_range 65 90 b) (is_in_range 97 122 b) (b == 95) none is

pub mark_is_apart : (b : ℕ) → begins_mark b ≡ true → (is_word_byte b ≡ false) × ((b == 39) ≡ false) × ((b == 34) ≡ false)
mark_is_apart b is =
    let outer = and_parts (not (is_word_byte b) && not (b == 39)) (not (b == 34)) is in
    let inner = and_parts (not (is_word_byte b)) (not (b == 39)) outer.0 in
    (not-true (is_word_byte b) inner.0, not-true (b == 39) inner.1, not-true (b == 34) outer.1)

-- a token that begins with a letter, a digit or `_` has no other bytes
token_is_word : (x : List ℕ) (kind : TokenKind) (class : Class) → is_word_byte (slice_index x 0) ≡ true → IsToken kind class x → list_all is_word_byte x ≡ true
token_is_word x Name class first is = (and_parts (begins_name (slice_index x 0)) (list_all is_word_byte x) is.1.is).1
token_is_word x Word class first is = (and_parts (begins_name (slice_index x 0)) (list_all is_word_byte x) (word_is_name x class is)).1
token_is_word x Number class first is = (number_is_word x is.1).0
token_is_word x Character class first is = let no_word : is_word_byte 39 ≡ true = subst (λ b. is_word_byte b ≡ true) (token_begins x Character class is) first in cc
token_is_word x Text class first is = let no_word : is_word_byte 34 ≡ true = subst (λ b. is_word_byte b ≡ true) (token_begins x Text class is) first in cc
token_is_word x Mark class first is = absurd (both_ways (is_word_byte (slice_index x 0)) (mark_is_apart (slice_index x 0) (mark_begins x class is)).0 first)

-- a token that begins with a quote is a character or a text
pub token_is_character : (x : List ℕ) (kind : TokenKind) (class : Class) → slice_index x 0 ≡ 39 → IsToken kind class x → (b : ℕ) × IsQuoted 39 x (b ∷ [])
token_is_character x Name class first is = let no : begins_name 39 ≡ true = subst (λ b. begins_name b ≡ true) first (token_begins x Name class is) in cc
token_is_character x Word class first is = let no : begins_name 39 ≡ true = subst (λ b. begins_name b ≡ true) first (token_begins x Word class is) in cc
token_is_character x Number class first is = let no : is_ascii_digit 39 ≡ true = subst (λ b. is_ascii_digit b ≡ true) first (token_begins x Number class is) in cc
token_is_character x Character class first is = (is.1.0, is.1.1)
token_is_character x Text class first is = let no : (34 == 39) ≡ true = eq-eqb 34 39 (sym (token_begins x Text class is) ∙ first) in cc
token_is_character x Mark class first is = let no : begins_mark 39 ≡ true = subst (λ b. begins_mark b ≡ true) first (token_begins x Mark class is) in cc

pub token_is_text : (x : List ℕ) (kind : TokenKind) (class : Class) → slice_index x 0 ≡ 34 → IsToken kind class x → (bytes : List ℕ) × IsQuoted 34 x bytes
token_is_text x Name class first is = let no : begins_name 34 ≡ true = subst (λ b. begins_name b ≡ true) first (token_begins x Name class is) in cc
token_is_text x Word class first is = let no : begins_name 34 ≡ true = subst (λ b. begins_name b ≡ true) first (token_begins x Word class is) in cc
token_is_text x Number class first is = let no : is_ascii_digit 34 ≡ true = subst (λ b. is_ascii_digit b ≡ true) first (token_begins x Number class is) in cc
token_is_text x Character class first is = let no : (39 == 34) ≡ true = eq-eqb 39 34 (sym (token_begins x Character class is) ∙ first) in cc
token_is_text x Text class first is = (is.1.0, is.1.1)
token_is_text x Mark class first is = let no : begins_mark 34 ≡ true = subst (λ b. begins_mark b ≡ true) first (token_begins x Mark class is) in cc

-- any other token is a mark
pub token_is_mark : (x : List ℕ) (kind : TokenKind) (class : Class) → is_word_byte (slice_index x 0) ≡ false → (slice_index x 0 == 39) ≡ false → (slice_index x 0 == 34) ≡ false → IsToken kind class x → mark_of x ≡ Some class
token_is_mark x Name class word character text is = absurd (both_ways (is_word_byte (slice_index x 0)) word (begins_is_word (slice_index x 0) (token_begins x Name class is)))
token_is_mark x Word class word character text is = absurd (both_ways (is_word_byte (slice_index x 0)) word (begins_is_word (slice_index x 0) (token_begins x Word class is)))
token_is_mark x Number class word character text is = absurd (both_ways (is_word_byte (slice_index x 0)) word (digit_is_word (slice_index x 0) (token_begins x Number class is)))
token_is_mark x Character class word character text is = absurd (both_ways (slice_index x 0 == 39) character (eq-eqb (slice_index x 0) 39 (token_begins x Character class is)))
token_is_mark x Text class word character text is = absurd (both_ways (slice_index x 0 == 34) text (eq-eqb (slice_index x 0) 34 (token_begins x Text class is)))
token_is_mark x Mark class word character text is = is

-- what is said of one lexeme is said of an equal one
pub moved : (P : TokenKind → Class → ℕ → Type 0) (kind k : TokenKind) (class d : Class) (n m : ℕ) → Lexeme k d m ≡ Lexeme kind class n → P k d m → P kind class n
moved P kind k class d n m same here =
    let kinds : k ≡ kind = cc in
    let classes : d ≡ class = cc in
    let sizes : m ≡ n = cc in
    subst (λ x. P kind class x) sizes (subst (λ x. P kind x m) classes (subst (λ x. P x d m) kinds here))

-- ---- names, words and numbers

pub all_in_prefix : (p : ℕ → Bool) (xs : List ℕ) → list_all p (take (prefix_len p xs) xs) ≡ true
all_in_prefix p [] = refl
all_in_prefix p (x ∷ xs) = prefix_case p x xs (p x) refl (all_in_prefix p xs) where
  prefix_case : (p : ℕ → Bool) (x : ℕ) (xs : List ℕ) (t : Bool) → p x ≡ t → list_all p (take (prefix_len p xs) xs) ≡ true → list_all p (take (cond t (1 + prefix_len p xs) 0) (x ∷ xs)) ≡ true
  prefix_case p x xs true is rest = rw one-add (and_from (p x) (list_all p (take (prefix_len p xs) xs)) is rest)
  prefix_case p x xs false is rest = refl

-- a longer front has a byte more
all_stops : (p : ℕ → Bool) (xs : List ℕ) (m : ℕ) → prefix_len p xs < m → m ≤ length xs → list_all p (take m xs) ≡ true → ⊥
all_stops p xs zero more fits all = absurd (omega arith)
all_stops p [] (suc m) more fits all = absurd (omega arith)
all_stops p (x ∷ xs) (suc m) more fits all =
    let each = and_parts (p x) (list_all p (take m xs)) all in
    let here : 1 + prefix_len p xs < suc m = subst (λ t. cond t (1 + prefix_len p xs) 0 < suc m) each.0 more in
    all_stops p xs m (omega (arith, here)) (omega (arith, fits)) each.1

-- what a run is
AtWord : List ℕ → TokenKind → Class → ℕ → Type 0
AtWord word kind class n = (length word ≡ n) × IsToken kind class word

free_is : (word : List ℕ) (long : Bool) (kind : TokenKind) (class : Class) (n : ℕ) → is_name word ≡ true → word_of word ≡ None → nat_lt 63 (length word) ≡ long → cond long (Bad LongName) (Lexeme Name c.Name (length word)) ≡ Lexeme kind class n → AtWord word kind class n
unfolding AtWord
free_is word true kind class n name w l is = cc
free_is word false kind class n name w l is = moved (AtWord word) kind Name class c.Name n (length word) is (refl, (refl, record { is = name; short = ltb-false 63 (length word) l; free = w }))

named_is : (word : List ℕ) (w : Option Class) (kind : TokenKind) (class : Class) (n : ℕ) → is_name word ≡ true → word_of word ≡ w → named (length word) w ≡ Lexeme kind class n → AtWord word kind class n
unfolding AtWord
named_is word None kind class n name w is = free_is word (nat_lt 63 (length word)) kind class n name w refl is
named_is word (Some found) kind class n name w is = moved (AtWord word) kind Word class found n (length word) is (refl, w)

number_is : (word : List ℕ) (number : Bool) (kind : TokenKind) (class : Class) (n : ℕ) → is_some (number_of word) ≡ number → numeral (length word) number ≡ Lexeme kind class n → AtWord word kind class n
unfolding AtWord
number_is word true kind class n e is = moved (AtWord word) kind Number class c.Number n (length word) is (refl, (refl, e))
number_is word false kind class n e is = cc

run_is : (word : List ℕ) (digit : Bool) (kind : TokenKind) (class : Class) (n : ℕ) → is_ascii_digit (slice_index word 0) ≡ digit → is_word_byte (slice_index word 0) ≡ true → list_all is_word_byte word ≡ true → cond digit (numeral (length word) (is_some (number_of word))) (named (length word) (word_of word)) ≡ Lexeme kind class n → AtWord word kind class n
run_is word true kind class n d first all is = number_is word (is_some (number_of word)) kind class n refl is
run_is word false kind class n d first all is =
    named_is word (word_of word) kind class n (and_from (begins_name (slice_index word 0)) (list_all is_word_byte word) (word_begins (slice_index word 0) d first) all) refl is

pub some_prefix : (p : ℕ → Bool) (z : List ℕ) → 0 < length z → p (slice_index z 0) ≡ true → 0 < prefix_len p z
some_prefix p [] some first = absurd (omega arith)
some_prefix p (x ∷ xs) some first = subst (λ t. 0 < cond t (1 + prefix_len p xs) 0) (sym first) (omega arith)

run_longest : (z : List ℕ) (kind : TokenKind) (class : Class) (n : ℕ) → 0 < length z → is_word_byte (slice_index z 0) ≡ true → run (take (prefix_len is_word_byte z) z) ≡ Lexeme kind class n → IsLongest z kind class n
unfolding AtWord
run_longest z kind class n some first is =
    let k = prefix_len is_word_byte z in
    let word = take k z in
    let begun : 0 < k = some_prefix is_word_byte z some first in
    let first_is : slice_index word 0 ≡ slice_index z 0 = get_or-take k z 0 0 begun in
    let told = run_is word (is_ascii_digit (slice_index word 0)) kind class n refl (ap is_word_byte first_is ∙ first) (all_in_prefix is_word_byte z) is in
    let size : k ≡ n = sym (length-prefix_len is_word_byte z) ∙ told.0 in
    subst (λ x. IsLongest z kind class x) size (record {
      some = begun;
      within = prefix_len-le-length is_word_byte z;
      is = told.1;
      longest = λ m other d more fits token.
          let front : slice_index (take m z) 0 ≡ slice_index z 0 = get_or-take m z 0 0 (omega (arith, more)) in
          all_stops is_word_byte z m more fits (token_is_word (take m z) other d (ap is_word_byte front ∙ first) token);
    })

-- ---- characters and texts

-- what is quoted has an end of its own
pub ends_once : (quote : ℕ) (rest : List ℕ) (found : Quoted) (m : ℕ) (bytes : List ℕ) → quote ≢ 92 → quoted_from quote Plain rest ≡ Some found → m ≤ length rest → IsQuoted quote (quote ∷ take m rest) bytes → m ≡ found.size
ends_once quote rest found m bytes other is fits whole =
    let inner : take m rest ≡ whole.source ++ quote ∷ [] = cc (whole.is) in
    let split : whole.source ++ quote ∷ drop m rest ≡ rest = sym (append_assoc whole.source (quote ∷ []) (drop m rest)) ∙ ap (λ xs. xs ++ drop m rest) (sym inner) ∙ take-append-drop m rest in
    let again = is_quoted quote whole.source bytes (drop m rest) other whole.spells in
    let same : Some (record { bytes = bytes; size = length whole.source + 1 }) ≡ Some found = sym again ∙ ap (quoted_from quote Plain) split ∙ is in
    let size : length whole.source + 1 ≡ found.size = cc in
    omega (arith, size, length-take-le m rest fits, ap length inner, length-append whole.source (quote ∷ []))

-- the whole of what is quoted
pub is_whole : (quote : ℕ) (rest : List ℕ) (found : Quoted) → quoted_from quote Plain rest ≡ Some found → IsQuoted quote (take (found.size + 1) (quote ∷ rest)) found.bytes
is_whole quote rest found is =
    let read = is_read quote Plain rest found tt is in
    record { source = read.source; is = rw add-one (ap (λ xs. quote ∷ xs) read.is); spells = read.spells }

one_byte : (bytes : List ℕ) → length bytes ≡ 1 → (b : ℕ) × (bytes ≡ b ∷ [])
one_byte [] one = absurd (omega arith)
one_byte (b ∷ []) one = (b, refl)
one_byte (b ∷ d ∷ bytes) one = absurd (omega (arith, one))

character_is : (rest : List ℕ) (found : Quoted) (single : Bool) (kind : TokenKind) (class : Class) (n : ℕ) → quoted_from 39 Plain rest ≡ Some found → (length found.bytes == 1) ≡ single → cond single (Lexeme Character c.Character (found.size + 1)) (Bad OpenText) ≡ Lexeme kind class n → IsLongest (39 ∷ rest) kind class n
character_is rest found true kind class n is one told =
    let read = is_read 39 Plain rest found tt is in
    let byte = one_byte found.bytes (eqb-true (length found.bytes) 1 one) in
    moved (λ k d m. IsLongest (39 ∷ rest) k d m) kind Character class c.Character n (found.size + 1) told (record {
      some = omega arith;
      within = omega (arith, read.within);
      is = (refl, (byte.0, subst (λ bytes. IsQuoted 39 (take (found.size + 1) (39 ∷ rest)) bytes) byte.1 (is_whole 39 rest found is)));
      longest = λ m other d more fits token. character_ends rest found m other d is more fits token;
    }) where
      character_ends : (rest : List ℕ) (found : Quoted) (m : ℕ) (other : TokenKind) (d : Class) → quoted_from 39 Plain rest ≡ Some found → found.size + 1 < m → m ≤ length (39 ∷ rest) → IsToken other d (take m (39 ∷ rest)) → ⊥
      character_ends rest found zero other d is more fits token = omega arith
      character_ends rest found (suc m) other d is more fits token =
          let whole = token_is_character (39 ∷ take m rest) other d refl token in
          let same = ends_once 39 rest found m (whole.0 ∷ []) (λ e. let absurd_equation : (39 == 92) ≡ true = eq-eqb 39 92 e in cc) is (omega (arith, fits)) whole.1 in
          omega (arith, same, more)
character_is rest found false kind class n is one told = cc

character_longest : (rest : List ℕ) (found : Option Quoted) (kind : TokenKind) (class : Class) (n : ℕ) → quoted_from 39 Plain rest ≡ found → character found ≡ Lexeme kind class n → IsLongest (39 ∷ rest) kind class n
character_longest rest None kind class n is told = cc
character_longest rest (Some found) kind class n is told = character_is rest found (length found.bytes == 1) kind class n is refl told

text_longest : (rest : List ℕ) (found : Option Quoted) (kind : TokenKind) (class : Class) (n : ℕ) → quoted_from 34 Plain rest ≡ found → text found ≡ Lexeme kind class n → IsLongest (34 ∷ rest) kind class n
text_longest rest None kind class n is told = cc
text_longest rest (Some found) kind class n is told =
    let read = is_read 34 Plain rest found tt is in
    moved (λ k d m. IsLongest (34 ∷ rest) k d m) kind Text class c.Text n (found.size + 1) told (record {
      some = omega arith;
      within = omega (arith, read.within);
      is = (refl, (found.bytes, is_whole 34 rest found is));
      longest = λ m other d more fits token. text_ends rest found m other d is more fits token;
    }) where
      text_ends : (rest : List ℕ) (found : Quoted) (m : ℕ) (other : TokenKind) (d : Class) → quoted_from 34 Plain rest ≡ Some found → found.size + 1 < m → m ≤ length (34 ∷ rest) → IsToken other d (take m (34 ∷ rest)) → ⊥
      text_ends rest found zero other d is more fits token = omega arith
      text_ends rest found (suc m) other d is more fits token =
          let whole = token_is_text (34 ∷ take m rest) other d refl token in
          let same = ends_once 34 rest found m whole.0 (λ e. let absurd_equation : (34 == 92) ≡ true = eq-eqb 34 92 e in cc) is (omega (arith, fits)) whole.1 in
          omega (arith, same, more)

-- ---- marks

-- no longer front is a mark
pub no_more : (z : List ℕ) (m : ℕ) (class : Class) → 3 < m → m ≤ length z → mark_of (take m z) ≡ Some class → ⊥
no_more z zero class more fits is = omega arith
no_more z (suc zero) class more fits is = omega arith
no_more z (suc (suc zero)) class more fits is = omega arith
no_more z (suc (suc (suc zero))) class more fits is = omega arith
no_more [] (suc (suc (suc (suc m)))) class more fits is = omega arith
no_more (a ∷ []) (suc (suc (suc (suc m)))) class more fits is = omega arith
no_more (a ∷ b ∷ []) (suc (suc (suc (suc m)))) class more fits is = omega arith
no_more (a ∷ b ∷ d ∷ []) (suc (suc (suc (suc m)))) class more fits is = omega arith
no_more (a ∷ b ∷ d ∷ e ∷ z) (suc (suc (suc (suc m)))) class more fits is = cc

three_mark : (z : List ℕ) (found : Class) → mark_of_three (slice_index z 0) (slice_index z 1) (slice_index z 2) ≡ Some found → (3 ≤ length z) × (mark_of (take 3 z) ≡ Some found)
three_mark [] found is = let some = three_whole 0 0 0 found is in cc
three_mark (a ∷ []) found is = let some = three_whole a 0 0 found is in cc
three_mark (a ∷ b ∷ []) found is = let some = three_whole a b 0 found is in cc
three_mark (a ∷ b ∷ d ∷ z) found is = (omega arith, is)

two_mark : (z : List ℕ) (found : Class) → mark_of_two (slice_index z 0) (slice_index z 1) ≡ Some found → (2 ≤ length z) × (mark_of (take 2 z) ≡ Some found)
two_mark [] found is = let some = two_whole 0 0 found is in cc
two_mark (a ∷ []) found is = let some = two_whole a 0 found is in cc
two_mark (a ∷ b ∷ z) found is = (omega arith, is)

one_mark : (z : List ℕ) (found : Class) → 0 < length z → mark_of_one (slice_index z 0) ≡ Some found → mark_of (take 1 z) ≡ Some found
one_mark [] found some is = absurd (omega arith)
one_mark (a ∷ z) found some is = is

no_three : (z : List ℕ) (d : Class) → 3 ≤ length z → mark_of_three (slice_index z 0) (slice_index z 1) (slice_index z 2) ≡ None → mark_of (take 3 z) ≡ Some d → ⊥
no_three [] d fits none is = omega arith
no_three (a ∷ []) d fits none is = omega arith
no_three (a ∷ b ∷ []) d fits none is = omega arith
no_three (a ∷ b ∷ e ∷ z) d fits none is = cc

no_two : (z : List ℕ) (d : Class) → 2 ≤ length z → mark_of_two (slice_index z 0) (slice_index z 1) ≡ None → mark_of (take 2 z) ≡ Some d → ⊥
no_two [] d fits none is = omega arith
no_two (a ∷ []) d fits none is = omega arith
no_two (a ∷ b ∷ z) d fits none is = cc

after_two : (z : List ℕ) (m : ℕ) (d : Class) → mark_of_three (slice_index z 0) (slice_index z 1) (slice_index z 2) ≡ None → 2 < m → m ≤ length z → mark_of (take m z) ≡ Some d → ⊥
after_two z m d none more fits is =
    elim (cases_lt 3 m) [
      | inl beyond ↦ no_more z m d beyond fits is
      | inr within ↦ let three : m ≡ 3 = omega arith in no_three z d (subst (λ x. x ≤ length z) three fits) none (subst (λ x. mark_of (take x z) ≡ Some d) three is)
    ]

pub after_one : (z : List ℕ) (m : ℕ) (d : Class) → mark_of_three (slice_index z 0) (slice_index z 1) (slice_index z 2) ≡ None → mark_of_two (slice_index z 0) (slice_index z 1) ≡ None → 1 < m → m ≤ length z → mark_of (take m z) ≡ Some d → ⊥
after_one z m d three two more fits is =
    elim (cases_lt 2 m) [
      | inl beyond ↦ after_two z m d three beyond fits is
      | inr within ↦ let pair : m ≡ 2 = omega arith in no_two z d (subst (λ x. x ≤ length z) pair fits) two (subst (λ x. mark_of (take x z) ≡ Some d) pair is)
    ]

abbrev pub IsLongestMark : List ℕ → TokenKind → Class → ℕ → Type 0
IsLongestMark z kind class n = (kind ≡ Mark) × (0 < n) × (n ≤ length z) × (mark_of (take n z) ≡ Some class) × ((m : ℕ) (d : Class) → n < m → m ≤ length z → mark_of (take m z) ≡ Some d → ⊥)

module _ (z : List ℕ) (kind : TokenKind) (class : Class) (n : ℕ) where
  pub mark_by : (o₃ o₂ o₁ : Option Class) → 0 < length z → mark_of_three (slice_index z 0) (slice_index z 1) (slice_index z 2) ≡ o₃ → mark_of_two (slice_index z 0) (slice_index z 1) ≡ o₂ → mark_of_one (slice_index z 0) ≡ o₁ → or_shorter 3 o₃ (or_shorter 2 o₂ (or_shorter 1 o₁ (Bad BadByte))) ≡ Lexeme kind class n → IsLongestMark z kind class n
  mark_by (Some m₃) o₂ o₁ some three two one told = moved (IsLongestMark z) kind Mark class m₃ n 3 told (let is = three_mark z m₃ three in (refl, omega arith, is.0, is.1, λ m d. no_more z m d))
  mark_by None (Some m₂) o₁ some three two one told = moved (IsLongestMark z) kind Mark class m₂ n 2 told (let is = two_mark z m₂ two in (refl, omega arith, is.0, is.1, λ m d. after_two z m d three))
  mark_by None None (Some m₁) some three two one told = moved (IsLongestMark z) kind Mark class m₁ n 1 told (refl, omega arith, omega (arith, some), one_mark z m₁ some one, λ m d. after_one z m d three two)
  mark_by None None None some three two one told = cc

pub mark_longest : (z : List ℕ) (kind : TokenKind) (class : Class) (n : ℕ) → 0 < length z → is_word_byte (slice_index z 0) ≡ false → (slice_index z 0 == 39) ≡ false → (slice_index z 0 == 34) ≡ false → mark z ≡ Lexeme kind class n → IsLongest z kind class n
unfolding mark
mark_longest z kind class n some word character text told =
    let first = slice_index z 0 in
    let is = mark_by z kind class n (mark_of_three first (slice_index z 1) (slice_index z 2)) (mark_of_two first (slice_index z 1)) (mark_of_one first) some refl refl refl told in
    record {
      some = is.1;
      within = is.2;
      is = subst (λ k. IsToken k class (take n z)) (sym is.0) is.3;
      longest = λ m other d more fits token.
          let front : slice_index (take m z) 0 ≡ first = get_or-take m z 0 0 (omega (arith, more)) in
          is.4 m d more fits (token_is_mark (take m z) other d (ap is_word_byte front ∙ word) (ap (λ b. b == 39) front ∙ character) (ap (λ b. b == 34) front ∙ text) token);
    }

-- ---- any token

comment_is_none : (o : Option ℕ) (kind : TokenKind) (class : Class) (n : ℕ) → comment o ≡ Lexeme kind class n → ⊥
comment_is_none None kind class n told = cc
comment_is_none (Some k) kind class n told = cc

-- a choice gives one or the other
abbrev pub Either : Bool → Piece → Piece → Piece → Type 0
Either b x y found = ((b ≡ true) × (x ≡ found)) ⊎ ((b ≡ false) × (y ≡ found))

pub either : (b : Bool) (x y found : Piece) → cond b x y ≡ found → Either b x y found
either true x y found told = inl (refl, told)
either false x y found told = inr (refl, told)

slash_longest : (z : List ℕ) (kind : TokenKind) (class : Class) (n : ℕ) → 0 < length z → slice_index z 0 ≡ 47 → slash z ≡ Lexeme kind class n → IsLongest z kind class n
slash_longest z kind class n some first told =
    let line = either (slice_index z 1 == 47) (Gap (prefix_len (λ b. not (is_line_feed b)) z)) (cond (slice_index z 1 == 42) (comment (comment_len (drop 2 z))) (mark z)) (Lexeme kind class n) told in
    elim line [
      | inl h ↦ let none = h.1 in cc
      | inr h ↦ elim (either (slice_index z 1 == 42) (comment (comment_len (drop 2 z))) (mark z) (Lexeme kind class n) h.1) [
        | inl k ↦ absurd (comment_is_none (comment_len (drop 2 z)) kind class n k.1)
        | inr k ↦ mark_longest z kind class n some (ap is_word_byte first) (ap (λ b. b == 39) first) (ap (λ b. b == 34) first) k.1
      ]
    ]

pub quote_first : (z : List ℕ) (quote : ℕ) → 0 < length z → (slice_index z 0 == quote) ≡ true → z ≡ quote ∷ drop 1 z
quote_first [] quote some is = absurd (omega arith)
quote_first (b ∷ z) quote some is = ap (λ x. x ∷ z) (eqb-true b quote is)

pub piece_longest : (z : List ℕ) (kind : TokenKind) (class : Class) (n : ℕ) → 0 < length z → piece z ≡ Lexeme kind class n → IsLongest z kind class n
unfolding piece quoted
piece_longest z kind class n some told =
    let first = slice_index z 0 in
    let found = Lexeme kind class n in
    let after_text = mark z in
    let after_character = cond (first == 34) (text (quoted 34 (drop 1 z))) after_text in
    let after_slash = cond (first == 39) (character (quoted 39 (drop 1 z))) after_character in
    let after_word = cond (first == 47) (slash z) after_slash in
    let after_blank = cond (is_word_byte first) (run (take (prefix_len is_word_byte z) z)) after_word in
    elim (either (is_blank first) (Gap (prefix_len is_blank z)) after_blank found told) [
      | inl h ↦ let none = h.1 in cc
      | inr h ↦ elim (either (is_word_byte first) (run (take (prefix_len is_word_byte z) z)) after_word found h.1) [
        | inl w ↦ run_longest z kind class n some w.0 w.1
        | inr w ↦ elim (either (first == 47) (slash z) after_slash found w.1) [
          | inl s ↦ slash_longest z kind class n some (eqb-true first 47 s.0) s.1
          | inr s ↦ elim (either (first == 39) (character (quoted 39 (drop 1 z))) after_character found s.1) [
            | inl q ↦ subst (λ x. IsLongest x kind class n) (sym (quote_first z 39 some q.0)) (character_longest (drop 1 z) (quoted 39 (drop 1 z)) kind class n refl q.1)
            | inr q ↦ elim (either (first == 34) (text (quoted 34 (drop 1 z))) after_text found q.1) [
              | inl t ↦ subst (λ x. IsLongest x kind class n) (sym (quote_first z 34 some t.0)) (text_longest (drop 1 z) (quoted 34 (drop 1 z)) kind class n refl t.1)
              | inr t ↦ mark_longest z kind class n some w.0 q.0 t.0 t.1
            ]
          ]
        ]
      ]
    ]
