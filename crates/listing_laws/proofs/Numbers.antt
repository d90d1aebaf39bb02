-- Numbers in decimal are read back.
use Rattle.std.proofs.Common.{◌≡◌, ℕ, suc, ◌+◌, ◌-◌, ◌*◌, ◌/◌, ◌%◌, ◌^◌, ◌<◌, ◌≤◌, Bool, true, false, cond, not, List, [], ◌∷◌, ◌++◌, length, drop, Option, Some, None, refl, ap, ◌∙◌, arith, nat_eq, nat_lt}
use Rattle.std.specs.Prelude.{◌&&◌, nat_le, decimal, option_map}
use Rattle.std.specs.List.{list_all}
use Rattle.std.specs.Char.{is_ascii_digit, is_ascii_hexdigit}
use Rattle.std.proofs.lemmas.Bool.{and_parts}
use Rattle.std.proofs.lemmas.Bool.Decides.{nat_tests}
use Rattle.std.proofs.lemmas.List.Folds.{list_all-append}
use Rattle.std.proofs.lemmas.List.Sums.{fold-append}
use Rattle.std.proofs.lemmas.Fmt.{decimal_by_steps}
use Rattle.asm_text.specs.Lexical.{is_blank, is_word_byte, digit_of, with_digit, value_of, is_hexadecimal, magnitude, number_of, numeral_at}
use Rattle.listing_laws.proofs.Spans.{stops, front_word, behind_word}

-- a byte of a digit below 10
pub digit_byte : (k : ℕ) → k < 10 → is_ascii_digit (48 + k) ≡ true
digit_byte k h = grind (arith, nat_tests)

digit_is : (k : ℕ) → k < 10 → digit_of (48 + k) ≡ k
unfolding digit_of
digit_is k h = ap (λ b. cond b (48 + k - 48) (cond (nat_le 97 (48 + k) && nat_le (48 + k) 102) (48 + k - 97 + 10) (cond (nat_le 65 (48 + k) && nat_le (48 + k) 70) (48 + k - 65 + 10) 0))) (digit_byte k h) ∙ (omega arith)

-- one digit more
pub step_of : (base n b d m : ℕ) → digit_of b ≡ d → n * base + d ≡ m → m < 2 ^ 64 → with_digit base (Some n) b ≡ Some m
unfolding with_digit
step_of base n b d m value e fits =
    ap (λ k. cond (nat_lt (n * base + k) (2 ^ 64)) (Some (n * base + k)) None) value ∙ (ap (λ k. cond (nat_lt k (2 ^ 64)) (Some k) None) e ∙ by (nat_lt m (2 ^ 64)) refl)
  where
    by : (b : Bool) → nat_lt m (2 ^ 64) ≡ b → cond b (Some m) None ≡ Some m
    by true h = refl
    by false h = absurd (grind (arith, nat_tests))

step_is : (n d m : ℕ) → d < 10 → n * 10 + d ≡ m → m < 2 ^ 64 → with_digit 10 (Some n) (48 + d) ≡ Some m
step_is n d m small e fits = step_of 10 n (48 + d) d m (digit_is d small) e fits

-- what digits are read as
pub record Reads (n : ℕ) (ds : List ℕ) : Type 0 where
  pub digits : list_all is_ascii_digit ds ≡ true
  pub some : 0 < length ds
  pub value : n < 2 ^ 64 → value_of 10 ds ≡ Some n

reads_digit : (n : ℕ) → n < 10 → Reads n ((48 + n) ∷ [])
reads_digit n h = record {
  digits = ap (λ b. b && true) (digit_byte n h);
  some = omega arith;
  value = λ f. step_is 0 n n h (omega arith) f;
}

all_one : (p : ℕ → Bool) (ds : List ℕ) (x : ℕ) → list_all p ds ≡ true → p x ≡ true → list_all p (ds ++ x ∷ []) ≡ true
all_one p ds x h k = list_all-append p ds (x ∷ []) ∙ (λ i. h i && (k i && true))

some_more : (ds : List ℕ) (x : ℕ) → 0 < length (ds ++ x ∷ [])
some_more [] x = omega arith
some_more (d ∷ ds) x = omega arith

reads_more : (n : ℕ) (ds : List ℕ) → 10 ≤ n → Reads (n / 10) ds → Reads n (ds ++ ((48 + n % 10) ∷ []))
reads_more n ds h r = record {
  digits = all_one is_ascii_digit ds (48 + n % 10) r.digits (digit_byte (n % 10) (omega arith));
  some = some_more ds (48 + n % 10);
  value = λ f.
      fold-append (with_digit 10) (Some 0) ds ((48 + n % 10) ∷ [])
      ∙ (ap (λ (o : Option ℕ). with_digit 10 o (48 + n % 10)) (r.value (omega arith)) ∙ step_is (n / 10) (n % 10) n (omega arith) (omega arith) f);
}

pub reads : (n : ℕ) → n < 2 ^ 64 → Reads n (decimal n)
reads n h = decimal_by_steps Reads reads_digit reads_more n h

-- ---- words of digits

digit_not_x : (b : ℕ) → is_ascii_digit b ≡ true → nat_eq b 120 ≡ false
digit_not_x b h = grind (arith, nat_tests)

not_hexadecimal : (ds : List ℕ) → list_all is_ascii_digit ds ≡ true → is_hexadecimal ds ≡ false
not_hexadecimal [] h = refl
not_hexadecimal (a ∷ []) h = refl
not_hexadecimal (a ∷ b ∷ ds) h =
    let e = digit_not_x b (and_parts (is_ascii_digit b) (list_all is_ascii_digit ds) (and_parts (is_ascii_digit a) (list_all is_ascii_digit (b ∷ ds)) h).1).0 in
    by (nat_lt 2 (suc (suc (length ds)))) (nat_eq a 48) (list_all is_ascii_hexdigit ds) (nat_eq b 120) e
  where
    by : (x y z w : Bool) → w ≡ false → (x && y && w && z) ≡ false
    by true true z w e = ap (λ t. t && z) e
    by true false z w e = refl
    by false y z w e = refl

magnitude_digits : (ds : List ℕ) → list_all is_ascii_digit ds ≡ true → 0 < length ds → magnitude ds ≡ Some (value_of 10 ds)
unfolding magnitude
magnitude_digits ds h s = (λ i. cond (not_hexadecimal ds h i) (Some (value_of 16 (drop 2 ds))) (cond (long i && h i) (Some (value_of 10 ds)) None))
  where
    long : nat_lt 0 (length ds) ≡ true
    long = grind (arith, nat_tests)

digit_word : (b : ℕ) → is_ascii_digit b ≡ true → is_word_byte b ≡ true
digit_word b h = grind (arith, nat_tests)

pub digits_word : (ds : List ℕ) → list_all is_ascii_digit ds ≡ true → list_all is_word_byte ds ≡ true
digits_word [] h = refl
digits_word (d ∷ ds) h = let p = and_parts (is_ascii_digit d) (list_all is_ascii_digit ds) h in (λ i. digit_word d p.0 i && digits_word ds p.1 i)

-- the byte at the front is a digit
pub digits_front : (q : ℕ → Bool) → ((d : ℕ) → is_ascii_digit d ≡ true → not (q d) ≡ true) → (ds rest : List ℕ) → list_all is_ascii_digit ds ≡ true → 0 < length ds
    → stops q (ds ++ rest) ≡ true
digits_front q other [] rest h s = absurd (omega arith)
digits_front q other (d ∷ ds) rest h s = other d (and_parts (is_ascii_digit d) (list_all is_ascii_digit ds) h).0

pub digit_no_blank : (d : ℕ) → is_ascii_digit d ≡ true → not (is_blank d) ≡ true
digit_no_blank d h = grind (arith, nat_tests)

-- ---- numbers

pub numeral_read : (negative : Bool) (n : ℕ) (rest : List ℕ) → n < 2 ^ 64 → stops is_word_byte rest ≡ true → numeral_at negative (decimal n ++ rest) ≡ Some (number_of negative (Some n), rest)
unfolding numeral_at
numeral_read negative n rest h s =
    let r = reads n h in
    let blank = digits_front is_blank digit_no_blank (decimal n) rest r.digits r.some in
    let word = digits_word (decimal n) r.digits in
    (λ i. option_map (λ o. (number_of negative o, behind_word (decimal n) rest word s blank i)) (magnitude (front_word (decimal n) rest word s blank i)))
    ∙ ap (option_map (λ o. (number_of negative o, rest))) (magnitude_digits (decimal n) r.digits r.some ∙ ap Some (r.value h))
