-- What stands first in a list of tokens is read exactly: whatever is read stands there, and whatever stands there is read.
use Rattle.std.proofs.Common.{◌≡◌, ◌≢◌, ℕ, ◌<◌, ◌≤◌, true, false, List, [], ◌∷◌, ◌++◌, Option, Some, None, refl, sym, ap, subst, inl, inr, arith, le-leb}
use Rattle.std.specs.Prelude.{codes}
use Rattle.std.specs.Fmt.{decimal}
use Rattle.std.specs.Str.{bytes_eq}
use Rattle.std.proofs.lemmas.Bool.{cases_Bool, false_from_ne_true}
use Rattle.std.proofs.lemmas.Bool.Decides.{nat_tests}
use Rattle.std.proofs.lemmas.Slice.Eq.{bytes_eq-Decides}
use Rattle.c_reader.specs.EarlyForm.{is_between, element_tokens}
use Rattle.c_reader.specs.EarlyReading.{Tokens, Front, and_then, exactly, letter_of, numeral, if_between, number_of, index_of, element_of}
use Rattle.c_reader.proofs.Numerals.{numeral-decimal, decimal_from_numeral}

-- whatever is read is such a value with such tokens after it
pub record Gets {A : Type 0} (front : Front A) (Is : A → Tokens → Type 0) : Type 0 where
  pub at : (value : A) (after : Tokens) → front ≡ Some (value, after) → Is value after

pub gets_none : {A : Type 0} {Is : A → Tokens → Type 0} → Gets None Is
gets_none = record { at = λ value after e. absurd (cc) }

pub gets_some : {A : Type 0} {Is : A → Tokens → Type 0} (value : A) (after : Tokens) → Is value after → Gets (Some (value, after)) Is
gets_some {A} {Is} value after h = record { at = λ v ts e. let same : (value, after) ≡ (v, ts) = cc in let P : A × Tokens → Type 0 = λ p. Is p.0 p.1 in subst P same h }

pub gets_then : {A B : Type 0} {first : Front A} {go_on : A → Tokens → Front B} {One : A → Tokens → Type 0} {Both : B → Tokens → Type 0}
    → Gets first One → ((value : A) (after : Tokens) → One value after → Gets (go_on value after) Both) → Gets (and_then first go_on) Both
gets_then {first = None} h other = gets_none
gets_then {first = Some p} h other = other p.0 p.1 (h.at p.0 p.1 refl)

pub bytes_eq-same : (word : List ℕ) → bytes_eq word word ≡ true
bytes_eq-same word = (bytes_eq-Decides word word).1 refl

pub bytes_eq-other : (t word : List ℕ) → t ≢ word → bytes_eq t word ≡ false
bytes_eq-other t word other = false_from_ne_true (bytes_eq t word) (λ e. other ((bytes_eq-Decides t word).0 e))

pub gets_exactly : (words ts : Tokens) → Gets (exactly words ts) (λ _ after. ts ≡ words ++ after)
gets_exactly [] ts = gets_some tt ts refl
gets_exactly (word ∷ words) [] = gets_none
gets_exactly (word ∷ words) (t ∷ ts) = elim (cases_Bool (bytes_eq t word)) [
  | inl same ↦ record { at = λ u after e. rw ((bytes_eq-Decides t word).0 same, (gets_exactly words ts).at u after (rw same at e)) refl }
  | inr other ↦ rw other gets_none
]

pub reads_exactly : (words rest : Tokens) → exactly words (words ++ rest) ≡ Some (tt, rest)
reads_exactly [] rest = refl
reads_exactly (word ∷ words) rest = rw (bytes_eq-same word) (reads_exactly words rest)

pub gets_letter : (ts : Tokens) → Gets (letter_of ts) (λ b after. (ts ≡ (b ∷ []) ∷ after) × (is_between 97 122 b ≡ true))
gets_letter [] = gets_none
gets_letter ([] ∷ ts) = gets_none
gets_letter ((b ∷ []) ∷ ts) = elim (cases_Bool (is_between 97 122 b)) [
  | inl holds ↦ rw holds (gets_some b ts (refl, holds))
  | inr fails ↦ rw fails gets_none
]
gets_letter ((b ∷ c ∷ bs) ∷ ts) = gets_none

pub reads_letter : (b : ℕ) (rest : Tokens) → is_between 97 122 b ≡ true → letter_of ((b ∷ []) ∷ rest) ≡ Some (b, rest)
reads_letter b rest holds = rw holds refl

pub record IsNumber (least most n : ℕ) : Type 0 where
  pub low : least ≤ n
  pub high : n ≤ most

is_number : (least most n : ℕ) → is_between least most n ≡ true → IsNumber least most n
is_number least most n holds = record { low = grind (arith, nat_tests); high = grind (arith, nat_tests) }

pub gets_number : (least most : ℕ) (ts : Tokens) → Gets (number_of least most ts) (λ n after. (ts ≡ decimal n ∷ after) × IsNumber least most n)
gets_number least most [] = gets_none
gets_number least most (t ∷ ts) = go (numeral t) refl
  where
    go : (o : Option ℕ) → numeral t ≡ o → Gets (if_between least most o ts) (λ n after. (t ∷ ts ≡ decimal n ∷ after) × IsNumber least most n)
    go None e = gets_none
    go (Some n) e = elim (cases_Bool (is_between least most n)) [
      | inl holds ↦ rw holds (gets_some n ts (ap (λ x. x ∷ ts) (sym (decimal_from_numeral t n e).0), is_number least most n holds))
      | inr fails ↦ rw fails gets_none
    ]

pub reads_number : (least most n : ℕ) (rest : Tokens) → least ≤ n → n ≤ most → n < 65536 → number_of least most (decimal n ∷ rest) ≡ Some (n, rest)
reads_number least most n rest low high small = rw (numeral-decimal n small, le-leb least n low, le-leb n most high) refl

pub gets_index : (least most : ℕ) (ts : Tokens) → Gets (index_of least most ts) (λ n after. (ts ≡ codes "[" ∷ decimal n ∷ codes "]" ∷ after) × IsNumber least most n)
gets_index least most ts =
    gets_then (gets_exactly (codes "[" ∷ []) ts) (λ _ ts1 opens.
    gets_then (gets_number least most ts1) (λ n ts2 number.
    gets_then (gets_exactly (codes "]" ∷ []) ts2) (λ _ ts3 closes.
    gets_some n ts3 (rw (opens, number.0, closes) refl, number.1))))

pub reads_index : (least most n : ℕ) (rest : Tokens) → least ≤ n → n ≤ most → n < 65536 → index_of least most (codes "[" ∷ decimal n ∷ codes "]" ∷ rest) ≡ Some (n, rest)
reads_index least most n rest low high small = rw (reads_number least most n (codes "]" ∷ rest) low high small) refl

pub gets_element : (name : List ℕ) (ts : Tokens) → Gets (element_of name ts) (λ n after. (ts ≡ element_tokens name n ++ after) × (n < 65536))
gets_element name ts =
    gets_then (gets_exactly (name ∷ []) ts) (λ _ ts1 named.
    record { at = λ n after e. let index = (gets_index 0 65535 ts1).at n after e in (rw (named, index.0) refl, omega (arith, index.1.high)) })

pub reads_element : (name : List ℕ) (n : ℕ) (rest : Tokens) → n < 65536 → element_of name (element_tokens name n ++ rest) ≡ Some (n, rest)
reads_element name n rest small = rw (bytes_eq-same name) (reads_index 0 65535 n rest (omega arith) (omega arith) small)
