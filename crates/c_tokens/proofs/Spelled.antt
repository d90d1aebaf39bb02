-- What the bytes of a token are.
use Rattle.std.proofs.Common.{◌≡◌, ℕ, ◌+◌, ◌<◌, ◌≤◌, Bool, true, false, not, cond, ◌&&◌, ◌||◌, ◌==◌, nat_lt, ◌⊎◌, List, [], ◌∷◌, length, take, drop, Option, Some, None, is_some, refl, ap, subst, inl, inr, ⊎_elim, lit≤, arith, nat_le, length-take}
use Rattle.std.specs.Prelude.{slice_index, option_and_then}
use Rattle.std.specs.List.{list_all, prefix_len}
use Rattle.std.specs.Char.{is_ascii_digit, is_ascii_hexdigit}
use Rattle.std.specs.Int.{is_in_range}
use Rattle.std.proofs.lemmas.List.Sums.{prefix_len_passes}
use Rattle.std.proofs.Math.Numerals.{one-add}
use Rattle.std.proofs.lemmas.Bool.{and_parts, or_cases, and_from, eqb-true, leb-true, le-leb, ltb-true}
use Rattle.c_tokens.specs.declared.class.Class.{Class}
use Rattle.c_tokens.specs.declared.numbers.Number.{Number}
use Rattle.c_tokens.specs.declared.numbers.Suffix.{Suffix}
use Rattle.c_tokens.specs.Words.{word_of, words}
use Rattle.c_tokens.specs.Marks.{mark_of_one, mark_of_two, mark_of_three, marks_of_one, marks_of_two, marks_of_three}
use Rattle.c_tokens.specs.Numbers.{number_of, typed, value_of, base_of, is_u, is_l, suffix_of, is_hexadecimal, digits_of, ending_of, has_digits}
use Rattle.c_tokens.specs.Pieces.{is_word_byte}
use Rattle.c_tokens.specs.Lexical.{is_name, mark_of}
use Rattle.c_tokens.proofs.Tables.{found_passes, one_passes, two_passes, three_passes}

pub word_is_name : (text : List ℕ) (class : Class) → word_of text ≡ Some class → is_name text ≡ true
unfolding word_of
word_is_name text class is = found_passes is_name words text class refl is

-- a byte that begins a mark
abbrev pub begins_mark : ℕ → Bool
begins_mark b = not (is_word_byte b) && not (b == 39) && not (b == 34)

pub mark_begins : (text : List ℕ) (class : Class) → mark_of text ≡ Some class → begins_mark (slice_index text 0) ≡ true
unfolding mark_of_one mark_of_two mark_of_three
mark_begins [] class is = cc
mark_begins (a ∷ []) class is = one_passes begins_mark marks_of_one a class refl is
mark_begins (a ∷ b ∷ []) class is = two_passes (λ x y. begins_mark x) marks_of_two a b class refl is
mark_begins (a ∷ b ∷ d ∷ []) class is = three_passes (λ x y. begins_mark x) marks_of_three a b d class refl is
mark_begins (a ∷ b ∷ d ∷ e ∷ rest) class is = cc

pub two_whole : (a b : ℕ) (class : Class) → mark_of_two a b ≡ Some class → nat_lt 0 b ≡ true
unfolding mark_of_two
two_whole a b class is = two_passes (λ x y. nat_lt 0 y) marks_of_two a b class refl is

pub three_whole : (a b d : ℕ) (class : Class) → mark_of_three a b d ≡ Some class → nat_lt 0 d ≡ true
unfolding mark_of_three
three_whole a b d class is = three_passes (λ x y. nat_lt 0 y) marks_of_three a b d class refl is

-- what passes a test up to its first failure, and after it another that the first implies, passes the second throughout
prefix_all : (p q : ℕ → Bool) (x : ℕ) (xs : List ℕ) (t : Bool) → p x ≡ t → ((b : ℕ) → p b ≡ true → q b ≡ true) → (list_all q (drop (prefix_len p xs) xs) ≡ true → list_all q xs ≡ true) → list_all q (drop (cond t (1 + prefix_len p xs) 0) (x ∷ xs)) ≡ true → list_all q (x ∷ xs) ≡ true
prefix_all p q x xs true is implies more all = and_from (q x) (list_all q xs) (implies x is) (more (rw one-add at all))
prefix_all p q x xs false is implies more all = all

all_after_prefix : (p q : ℕ → Bool) (xs : List ℕ) → ((b : ℕ) → p b ≡ true → q b ≡ true) → list_all q (drop (prefix_len p xs) xs) ≡ true → list_all q xs ≡ true
all_after_prefix p q [] implies all = refl
all_after_prefix p q (x ∷ xs) implies all = prefix_all p q x xs (p x) refl implies (all_after_prefix p q xs implies) all

-- a letter of a suffix is a letter
u_is_word : (b : ℕ) → is_u b ≡ true → is_word_byte b ≡ true
u_is_word b is = ⊎_elim (λ e. ap is_word_byte (eqb-true b 117 e)) (λ e. ap is_word_byte (eqb-true b 85 e)) (or_cases (b == 117) (b == 85) is)

l_is_word : (b : ℕ) → is_l b ≡ true → is_word_byte b ≡ true
l_is_word b is = ⊎_elim (λ e. ap is_word_byte (eqb-true b 108 e)) (λ e. ap is_word_byte (eqb-true b 76 e)) (or_cases (b == 108) (b == 76) is)

letter_is_word : (b : ℕ) (t l : Bool) (x y s : Suffix) → is_u b ≡ t → is_l b ≡ l → cond t (Some x) (cond l (Some y) None) ≡ Some s → is_word_byte b ≡ true
letter_is_word b true l x y s u e is = u_is_word b u
letter_is_word b false true x y s u e is = l_is_word b e
letter_is_word b false false x y s u e is = cc

letters_are_words : (a b : ℕ) (t : Bool) (x s : Suffix) → ((is_u a && is_l b) || (is_l a && is_u b)) ≡ t → cond t (Some x) None ≡ Some s → (is_word_byte a ≡ true) × (is_word_byte b ≡ true)
letters_are_words a b true x s both is =
    ⊎_elim
    (λ e. let each = and_parts (is_u a) (is_l b) e in (u_is_word a each.0, l_is_word b each.1))
    (λ e. let each = and_parts (is_l a) (is_u b) e in (l_is_word a each.0, u_is_word b each.1))
    (or_cases (is_u a && is_l b) (is_l a && is_u b) both)
letters_are_words a b false x s both is = cc

suffix_is_word : (ending : List ℕ) (s : Suffix) → suffix_of ending ≡ Some s → list_all is_word_byte ending ≡ true
unfolding suffix_of
suffix_is_word [] s is = refl
suffix_is_word (a ∷ []) s is =
    and_from (is_word_byte a) true (letter_is_word a (is_u a) (is_l a) (record { unsigned = true; long = false }) (record { unsigned = false; long = true }) s refl refl is) refl
suffix_is_word (a ∷ b ∷ []) s is =
    let each = letters_are_words a b ((is_u a && is_l b) || (is_l a && is_u b)) (record { unsigned = true; long = true }) s refl is in
    and_from (is_word_byte a) (is_word_byte b && true) each.0 (and_from (is_word_byte b) true each.1 refl)
suffix_is_word (a ∷ b ∷ c ∷ rest) s is = cc

pub digit_is_word : (b : ℕ) → is_ascii_digit b ≡ true → is_word_byte b ≡ true
digit_is_word b is = rw is refl

-- a byte of a range is one of a wider range
in_wider : (from to more b : ℕ) → to ≤ more → is_in_range from to b ≡ true → is_in_range from more b ≡ true
in_wider from to more b wider is =
    let each = and_parts (nat_le from b) (nat_le b to) is in
    and_from (nat_le from b) (nat_le b more) each.0 (le-leb b more (omega (arith, wider, leb-true b to each.1)))

-- the ranges of a letter or digit, and `_`
word_of_parts : (digit upper lower line : Bool) → (digit ≡ true) ⊎ ((upper ≡ true) ⊎ (lower ≡ true)) → (((digit || upper) || lower) || line) ≡ true
word_of_parts true upper lower line some = refl
word_of_parts false true lower line some = refl
word_of_parts false false true line some = refl
word_of_parts false false false line some = ⊎_elim (λ e. cc) (λ more. ⊎_elim (λ e. cc) (λ e. cc) more) some

hexdigit_is_word : (b : ℕ) → is_ascii_hexdigit b ≡ true → is_word_byte b ≡ true
hexdigit_is_word b is =
    word_of_parts (is_in_range 48 57 b) (is_in_range 65 90 b) (is_in_range 97 122 b) (b == 95)
    (⊎_elim
    (λ either. ⊎_elim (λ e. inl e) (λ e. inr (inl (in_wider 65 70 90 b (lit≤ tt) e))) (or_cases (is_in_range 48 57 b) (is_in_range 65 70 b) either))
    (λ e. inr (inr (in_wider 97 102 122 b (lit≤ tt) e)))
    (or_cases (is_in_range 48 57 b || is_in_range 65 70 b) (is_in_range 97 102 b) is))

-- a number has digits and a suffix
number_parts : (b : Bool) (o : Option Suffix) (f : Suffix → Option Number) → is_some (cond b (option_and_then f o) None) ≡ true → (b ≡ true) × ((s : Suffix) × (o ≡ Some s))
number_parts true None f is = cc
number_parts true (Some s) f is = (refl, (s, refl))
number_parts false o f is = cc

-- the bytes of a number are letters and digits, the first a digit
hexadecimal_is_word : (text : List ℕ) → is_hexadecimal text ≡ true → list_all is_word_byte (drop (prefix_len is_ascii_hexdigit (drop 2 text)) (drop 2 text)) ≡ true → (list_all is_word_byte text ≡ true) × (is_ascii_digit (slice_index text 0) ≡ true)
hexadecimal_is_word [] is ending = cc
hexadecimal_is_word (a ∷ []) is ending = let each = and_parts (a == 48) false is in cc (each.1)
hexadecimal_is_word (a ∷ b ∷ rest) is ending =
    let each = and_parts (a == 48) (b == 120) is in
    let zero_is : a ≡ 48 = eqb-true a 48 each.0 in (
      and_from (is_word_byte a) (is_word_byte b && list_all is_word_byte rest) (ap is_word_byte zero_is)
          (and_from (is_word_byte b) (list_all is_word_byte rest) (ap is_word_byte (eqb-true b 120 each.1)) (all_after_prefix is_ascii_hexdigit is_word_byte rest hexdigit_is_word ending)),
      ap is_ascii_digit zero_is,
    )

decimal_is_word : (text : List ℕ) → nat_lt 0 (length (take (prefix_len is_ascii_digit text) text)) ≡ true → list_all is_word_byte (drop (prefix_len is_ascii_digit text) text) ≡ true → (list_all is_word_byte text ≡ true) × (is_ascii_digit (slice_index text 0) ≡ true)
decimal_is_word text some ending =
    let first : 0 < prefix_len is_ascii_digit text = omega (arith, ltb-true 0 (length (take (prefix_len is_ascii_digit text) text)) some, length-take (prefix_len is_ascii_digit text) text) in
    (all_after_prefix is_ascii_digit is_word_byte text digit_is_word ending, prefix_len_passes is_ascii_digit text 0 0 first)

split_is_word : (text : List ℕ) (t : Bool) → is_hexadecimal text ≡ t → has_digits t (digits_of text) ≡ true → list_all is_word_byte (ending_of text) ≡ true → (list_all is_word_byte text ≡ true) × (is_ascii_digit (slice_index text 0) ≡ true)
unfolding has_digits digits_of ending_of
split_is_word text true is digits ending =
    hexadecimal_is_word text is (subst (λ t. list_all is_word_byte (cond t (drop (prefix_len is_ascii_hexdigit (drop 2 text)) (drop 2 text)) (drop (prefix_len is_ascii_digit text) text)) ≡ true) is ending)
split_is_word text false is digits ending =
    let decimal = take (prefix_len is_ascii_digit text) text in
    let told = subst (λ t. has_digits false (cond t (take (prefix_len is_ascii_hexdigit (drop 2 text)) (drop 2 text)) decimal) ≡ true) is digits in
    decimal_is_word text (and_parts (nat_lt 0 (length decimal)) (nat_lt (length decimal) 2 || not (slice_index decimal 0 == 48)) told).0
    (subst (λ t. list_all is_word_byte (cond t (drop (prefix_len is_ascii_hexdigit (drop 2 text)) (drop 2 text)) (drop (prefix_len is_ascii_digit text) text)) ≡ true) is ending)

pub number_is_word : (text : List ℕ) → is_some (number_of text) ≡ true → (list_all is_word_byte text ≡ true) × (is_ascii_digit (slice_index text 0) ≡ true)
unfolding number_of
number_is_word text is =
    let parts = number_parts (has_digits (is_hexadecimal text) (digits_of text)) (suffix_of (ending_of text)) (typed (value_of (base_of (is_hexadecimal text)) (digits_of text)) (is_hexadecimal text)) is in
    split_is_word text (is_hexadecimal text) refl parts.0 (suffix_is_word (ending_of text) parts.1.0 parts.1.1)
