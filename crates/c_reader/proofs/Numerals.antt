-- Which bytes are the decimal of a number below 65,536.
use Rattle.std.proofs.Common.{◌≡◌, ◌≢◌, ℕ, zero, suc, ◌^◌, ◌<◌, ◌≤◌, true, false, ◌&&◌, List, [], ◌∷◌, length, get_or, Some, None, Result, Ok, Err, refl, sym, ◌∙◌, ap, subst, inl, inr, arith}
use Rattle.std.specs.Prelude.{nat_lt}
use Rattle.std.specs.Fmt.{decimal}
use Rattle.std.specs.Result.{result_ok}
use Rattle.std.specs.Str.{bytes_eq, IsUtf8}
use Rattle.std.specs.Str.Parse.{AllDigits, digits_value, ParsesUnsigned}
use Rattle.std.proofs.lemmas.Bool.{cases_Bool, and_parts, true≢false, ltb-true, lt-ltb}
use Rattle.std.proofs.lemmas.Bool.Decides.{nat_tests}
use Rattle.std.proofs.lemmas.Fmt.{digits_decimal, digits_value-decimal, decimal-digits_value, decimal_nonempty, decimal_digit, first_decimal, IsAscii-decimal}
use Rattle.std.proofs.lemmas.Slice.Eq.{bytes_eq-Decides}
use Rattle.std.proofs.lemmas.Str.{IsUtf8-from_ascii}
use Rattle.std.proofs.lemmas.Str.Parse.{IsNumeralModel, numerals_by_value, tells_digits, digit_at, parse_plain}
use Rattle.c_reader.specs.EarlyForm.{is_between}
use Rattle.c_reader.specs.EarlyReading.{begins_oddly, numeral}

own : IsNumeralModel (AllDigits 10) (digits_value 10)
own = numerals_by_value (AllDigits 10) tells_digits

-- a number below 65,536 is read back from its decimal
pub numeral-decimal : (n : ℕ) → n < 65536 → numeral (decimal n) ≡ Some n
unfolding numeral
numeral-decimal n small =
    let value : digits_value 10 (decimal n) ≡ n = digits_value-decimal own n (omega arith) in
    let same : bytes_eq (decimal n) (decimal n) ≡ true = (bytes_eq-Decides (decimal n) (decimal n)).1 refl in
    rw (value, same, lt-ltb n 65536 small) refl

-- what is read as a numeral is the decimal of its value
pub decimal_from_numeral : (t : List ℕ) (n : ℕ) → numeral t ≡ Some n → (decimal n ≡ t) × (n < 65536)
unfolding numeral
decimal_from_numeral t n read =
    let v = digits_value 10 t in
    elim (cases_Bool (bytes_eq t (decimal v) && nat_lt v 65536)) [
      | inl e ↦
          let parts = and_parts (bytes_eq t (decimal v)) (nat_lt v 65536) e in
          let same : v ≡ n = let h = rw e at read in cc in
          let small : v < 65536 = ltb-true v 65536 parts.1 in
          (rw (← same) (sym ((bytes_eq-Decides t (decimal v)).0 parts.0)), omega arith)
      | inr e ↦ let h = rw e at read in absurd (cc)
    ]

-- bytes that are no decimal give nothing
no_numeral : (t : List ℕ) → ((n : ℕ) → n < 65536 → decimal n ≢ t) → numeral t ≡ None
unfolding numeral
no_numeral t none =
    let v = digits_value 10 t in
    elim (cases_Bool (bytes_eq t (decimal v) && nat_lt v 65536)) [
      | inl e ↦
          let parts = and_parts (bytes_eq t (decimal v)) (nat_lt v 65536) e in
          absurd (none v (ltb-true v 65536 parts.1) (sym ((bytes_eq-Decides t (decimal v)).0 parts.0)))
      | inr e ↦ rw e refl
    ]

-- a decimal begins with a digit, and with 0 only if that is all
even_front : (n : ℕ) → n < 65536 → begins_oddly (decimal n) ≡ false
even_front zero small = rw (decimal_digit 0 (omega arith)) refl
even_front (suc n) small =
    let f : 48 < get_or (decimal (suc n)) 0 0 = first_decimal (suc n) (omega arith) (omega arith) in
    grind (arith, nat_tests)

pub decimal_no_letter : (n b : ℕ) → n < 65536 → is_between 97 122 b ≡ true → decimal n ≢ b ∷ []
decimal_no_letter n b small letter e =
    let digit = digit_at (decimal n) 0 (digits_decimal own n (omega arith)) (decimal_nonempty n (omega arith)) in
    let first : get_or (decimal n) 0 0 ≡ b = ap (λ t. get_or t 0 0) e in
    grind (arith, nat_tests)

pub numeral_odd : (t : List ℕ) → begins_oddly t ≡ true → numeral t ≡ None
numeral_odd t odd = no_numeral t (λ n small e. true≢false (sym odd ∙ (ap begins_oddly (sym e) ∙ even_front n small)))

pub numeral_no_text : (t : List ℕ) → ¬ (IsUtf8 t) → numeral t ≡ None
numeral_no_text t bad = no_numeral t (λ n small e. let P : List ℕ → Type 0 = IsUtf8 in bad (subst P e (IsUtf8-from_ascii (decimal n) (IsAscii-decimal n (omega arith)))))

-- what `parse` says of bytes that do not begin oddly
pub numeral_parsed : {E : Type 0} (t : List ℕ) (r : Result ℕ E) → ParsesUnsigned 16 10 t r → begins_oddly t ≡ false → numeral t ≡ result_ok r
numeral_parsed {E} t (Ok n) parsed even =
    let plus : get_or t 0 0 ≢ 43 = grind (arith, nat_tests) in
    let led : get_or t 0 0 ≡ 48 → length t ≤ 1 = grind (arith, nat_tests) in
    let plain = parse_plain own {E = E} 16 t (Ok n) parsed plus in
    let back : decimal (digits_value 10 t) ≡ t =
    decimal-digits_value own t plain.0.0 plain.0.1 (λ e. omega (arith, led e, plain.0.1)) (omega (arith, plain.0.2)) in
    ap numeral (sym back) ∙ (numeral-decimal (digits_value 10 t) (omega (arith, plain.0.2)) ∙ ap Some (sym plain.1))
numeral_parsed {E} t (Err e) parsed even =
    let plus : get_or t 0 0 ≢ 43 = grind (arith, nat_tests) in
    let refused = parse_plain own {E = E} 16 t (Err e) parsed plus in
    no_numeral t (λ n small same.
    let P : List ℕ → Type 0 = λ x. AllDigits 10 x × (0 < length x) × (digits_value 10 x < 2 ^ 16) in
    let value : digits_value 10 (decimal n) ≡ n = digits_value-decimal own n (omega arith) in
    refused (subst P same (digits_decimal own n (omega arith), decimal_nonempty n (omega arith), omega arith)))
