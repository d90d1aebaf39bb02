-- Numbers with a sign are read back.
use Rattle.std.proofs.Common.{◌≡◌, ℕ, suc, ◌-◌, ◌^◌, ◌<◌, Bool, true, false, cond, not, List, [], ◌∷◌, ◌++◌, length, Some, None, refl, sym, ap, ◌∙◌, arith, nat_lt, append-nil}
use Rattle.std.specs.Prelude.{nat_le, decimal, slice_index, ℤ, pos, negsuc, ◌-ℤ◌, option_and_then}
use Rattle.std.specs.List.{list_all}
use Rattle.std.specs.Fmt.{signed_decimal}
use Rattle.std.specs.Char.{is_ascii_digit}
use Rattle.std.proofs.lemmas.Bool.{and_parts}
use Rattle.std.proofs.lemmas.Bool.Decides.{nat_tests}
use Rattle.x86_forms.specs.Fits.{fits_32, fits_64}
use Rattle.asm_text.specs.Lexical.{either, is_blank, is_word_byte, ended, skip, word_at, number_of, numeral_at, number_at, alone, number_alone}
use Rattle.asm_text.specs.Cuts.{is}
use Rattle.listing_laws.proofs.Spans.{stops, front_word}
use Rattle.listing_laws.proofs.Marks.{mark_here, mark_none}
use Rattle.listing_laws.proofs.Words.{IsNoWord, digits_no_word}
use Rattle.listing_laws.proofs.Numbers.{reads, digits_word, numeral_read, digits_front, digit_no_blank}

pub fits_wide : (z : ℤ) → fits_32 z ≡ true → fits_64 z ≡ true
fits_wide (pos n) f = grind (arith, nat_tests)
fits_wide (negsuc n) f = grind (arith, nat_tests)

-- ---- the front of a decimal

pub decimal_front : (q : ℕ → Bool) → ((d : ℕ) → is_ascii_digit d ≡ true → not (q d) ≡ true) → (n : ℕ) (rest : List ℕ) → n < 2 ^ 64 → stops q (decimal n ++ rest) ≡ true
decimal_front q other n rest h = let r = reads n h in digits_front q other (decimal n) rest r.digits r.some

pub digit_no_mark : (m : ℕ) → m < 48 → (d : ℕ) → is_ascii_digit d ≡ true → not (is m d) ≡ true
digit_no_mark m below d h = grind (arith, nat_tests)

pub digit_no_bracket : (d : ℕ) → is_ascii_digit d ≡ true → not (is 91 d) ≡ true
digit_no_bracket d h = grind (arith, nat_tests)

pub digit_no_colon : (d : ℕ) → is_ascii_digit d ≡ true → not (is 58 d) ≡ true
digit_no_colon d h = grind (arith, nat_tests)

-- ---- the word of a decimal

pub decimal_word : (n : ℕ) (rest : List ℕ) → n < 2 ^ 64 → stops is_word_byte rest ≡ true → word_at (decimal n ++ rest) ≡ decimal n
decimal_word n rest h s = front_word (decimal n) rest (digits_word (decimal n) (reads n h).digits) s (decimal_front is_blank digit_no_blank n rest h)

pub decimal_alone : (n : ℕ) → n < 2 ^ 64 → word_at (decimal n) ≡ decimal n
decimal_alone n h = ap word_at (sym (append-nil (decimal n))) ∙ decimal_word n [] h refl

digits_first : (ds : List ℕ) → list_all is_ascii_digit ds ≡ true → 0 < length ds → is_ascii_digit (slice_index ds 0) ≡ true
digits_first [] h s = absurd (omega arith)
digits_first (d ∷ ds) h s = (and_parts (is_ascii_digit d) (list_all is_ascii_digit ds) h).0

pub decimal_digit : (n : ℕ) → n < 2 ^ 64 → is_ascii_digit (slice_index (decimal n) 0) ≡ true
decimal_digit n h = let r = reads n h in digits_first (decimal n) r.digits r.some

digits_are_no_word : (ds : List ℕ) → list_all is_ascii_digit ds ≡ true → 0 < length ds → IsNoWord ds
digits_are_no_word [] h s = absurd (omega arith)
digits_are_no_word (d ∷ ds) h s = digits_no_word d ds (and_parts (is_ascii_digit d) (list_all is_ascii_digit ds) h).0

pub decimal_no_word : (n : ℕ) → n < 2 ^ 64 → IsNoWord (decimal n)
decimal_no_word n h = let r = reads n h in digits_are_no_word (decimal n) r.digits r.some

-- ---- numbers with a sign

below_64 : (n : ℕ) → nat_lt n (2 ^ 63) ≡ true → n < 2 ^ 63
below_64 n h = grind (arith, nat_tests)

pub minus_is : (n : ℕ) → pos 0 -ℤ pos (suc n) ≡ negsuc n
minus_is n =
    let one : nat_lt 0 (suc n) ≡ true = grind (arith, nat_tests) in
    let e : suc n - 1 ≡ n = omega arith in
    ap (λ b. cond b (negsuc (suc n - 1)) (pos (0 - suc n))) one ∙ ap negsuc e

negated : (n : ℕ) → n < 2 ^ 63 → number_of true (Some (suc n)) ≡ Some (negsuc n)
unfolding number_of
negated n h = ap (λ b. cond b (Some (pos 0 -ℤ pos (suc n))) None) within ∙ ap Some (minus_is n)
  where
    within : nat_le (suc n) (2 ^ 63) ≡ true
    within = grind (arith, nat_tests)

pub numeral_below : (n : ℕ) (rest : List ℕ) → n < 2 ^ 63 → stops is_word_byte rest ≡ true → numeral_at true (decimal (suc n) ++ rest) ≡ Some (Some (negsuc n), rest)
numeral_below n rest h s = numeral_read true (suc n) rest (omega arith) s ∙ ap (λ o. Some (o, rest)) (negated n h)

pub numeral_above : (n : ℕ) (rest : List ℕ) → n < 2 ^ 63 → stops is_word_byte rest ≡ true → numeral_at false (decimal n ++ rest) ≡ Some (Some (pos n), rest)
unfolding number_of
numeral_above n rest h s = numeral_read false n rest (omega arith) s

pub number_read : (z : ℤ) (rest : List ℕ) → fits_64 z ≡ true → stops is_word_byte rest ≡ true → number_at (signed_decimal z ++ rest) ≡ Some (Some z, rest)
unfolding number_at
number_read (pos n) rest f s =
    let h = below_64 n f in
    let small : n < 2 ^ 64 = omega arith in
    ap (λ o. either o (λ behind. numeral_at true behind) (numeral_at false (decimal n ++ rest)))
    (mark_none 45 (decimal n ++ rest) (decimal_front is_blank digit_no_blank n rest small) (decimal_front (is 45) (digit_no_mark 45 (omega arith)) n rest small))
    ∙ numeral_above n rest h s
number_read (negsuc n) rest f s =
    ap (λ o. either o (λ behind. numeral_at true behind) (numeral_at false (45 ∷ decimal (suc n) ++ rest))) (mark_here 45 (decimal (suc n) ++ rest) refl)
    ∙ numeral_below n rest (below_64 n f) s

pub number_whole : (z : ℤ) → fits_64 z ≡ true → number_alone (signed_decimal z) ≡ Some (Some z)
unfolding number_alone ended skip
number_whole z f =
    ap (option_and_then alone) (ap number_at (sym (append-nil (signed_decimal z))) ∙ number_read z [] f refl)
