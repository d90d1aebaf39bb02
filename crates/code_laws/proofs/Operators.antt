-- Shifts, divisions and comparisons of words are those of C's numbers.
use Rattle.std.proofs.Common.{◌≡◌, ℕ, zero, suc, ◌+◌, ◌-◌, ◌*◌, ◌/◌, ◌%◌, ◌^◌, ◌<◌, ◌≤◌, inl, inr, Bool, true, false, cond, Option, None, Some, refl, arith, ap, ◌∙◌, sym, subst}
use Rattle.std.specs.Prelude.{ℤ, pos, negsuc, neg_ℤ, ◌*ℤ◌, ◌<ℤ◌, ◌≤ℤ◌, if◌then◌else◌, ◌==◌, ◌&&◌, ◌||◌, not, nat_le, nat_lt, int_lt, int_le, int_div, int_rem}
use Rattle.std.specs.Int.{int_shr}
use Rattle.std.specs.Ordering.{int_eq}
use Rattle.std.specs.Option.{option_map}
use Rattle.std.proofs.Math.Nat.{div-le_self}
use Rattle.std.proofs.lemmas.Bool.{cases_lt}
use Rattle.std.proofs.lemmas.Bool.Decides.{nat_tests, eqb_tells}
use Rattle.std.proofs.lemmas.Int.{ints}
use Rattle.std.proofs.lemmas.Nat.{mul-mod_first, mul-mod_second, div-add-mod'}
use Rattle.mx_base.specs.declared.numbers.IntKind.{IntKind}
use Rattle.mx_base.specs.declared.numbers.IntKind.TheVariants.{I8, U8, I16, U16, I32, U32, I64, U64}
use Rattle.mx_base.specs.Numbers.{modulus, is_signed, residue, number_of, value_of, wrapped, word_of, extended}
use Rattle.mx_base.specs.declared.operators.Arithmetic.TheVariants.{Div, Rem, Shl, Shr}
use Rattle.mx_base.specs.declared.operators.Comparison.{Comparison}
use Rattle.mx_base.specs.declared.operators.Comparison.TheVariants.{Less, LessOrEqual, Greater, GreaterOrEqual, Equal, NotEqual}
use Rattle.mx_base.specs.Operators.{count_modulus, is_long, least_long, has_no_quotient, arithmetic, word_arithmetic, compares, word_compares}
use Rattle.mx_base.proofs.NumbersLemmas.{as_signed_low, as_signed_high, as_signed_within, residue-as_signed}
use Rattle.x86_forms.specs.Arithmetic as machine
use Rattle.x86_forms.specs.Arithmetic.{Flags, Operation, Cmp, low, signed, bits_of, is_negative, holds_signed, holds, result_of, flags_after, divided, divided_signed}
use Rattle.x86_forms.proofs.Conditions.{compare_64}
use Rattle.step_code.specs.Steps.{is_narrow, shift_width, condition}
use Rattle.code_laws.proofs.Words.{words, residue_twice, residue_32, residue_narrow, mod_twice, mod_narrow, product, word_small, word_is, signed_back, signed_back_32, plain_back, narrow_small, by_residue, by_shift}

-- ---- shifts

-- a count is taken modulo 64 or 32
count_64 : (b : ℤ) → residue words b % 2 ^ 8 % 64 ≡ residue 64 b
unfolding residue
count_64 (pos a) = omega arith
count_64 (negsuc a) = omega arith

count_32 : (b : ℤ) → residue words b % 2 ^ 8 % 32 ≡ residue 32 b
unfolding residue
count_32 (pos a) = omega arith
count_32 (negsuc a) = omega arith

count_of_kind : (kind : IntKind) → count_modulus kind ≡ shift_width kind
count_of_kind I8 = refl
count_of_kind U8 = refl
count_of_kind I16 = refl
count_of_kind U16 = refl
count_of_kind I32 = refl
count_of_kind U32 = refl
count_of_kind I64 = refl
count_of_kind U64 = refl

residue_power : (p : ℕ) → residue words (pos p) ≡ p % words
unfolding residue
residue_power p = refl

-- times a power, modulo 2^64
scaled : (a : ℤ) (p : ℕ) → residue words (a *ℤ pos p) ≡ (residue words a * p) % words
scaled a p = product a (pos p) ∙ ap (λ (n : ℕ). (residue words a * n) % words) (residue_power p) ∙ mul-mod_second (residue words a) p words

abbrev counted : ℕ → ℤ → ℕ
counted w b = 2 ^ residue w b

left_64 : (kind : IntKind) (a b : ℤ) → residue words a < words → residue (modulus kind) (a *ℤ pos (counted 64 b)) ≡ by_shift 64 machine.Shl (residue words a) (residue words b) % modulus kind
unfolding result_of
left_64 kind a b small =
    let x = residue words a in
    let p = counted 64 b in
    let by : by_shift 64 machine.Shl x (residue words b) ≡ (x * p) % words % words = λ i. (word_is x small i * 2 ^ count_64 b i) % words % words in
    let once : (x * p) % words % words ≡ (x * p) % words = omega arith in
    sym (residue_twice kind (a *ℤ pos p)) ∙ ap (λ (n : ℕ). n % modulus kind) (scaled a p ∙ sym once ∙ sym by)

left_32 : (kind : IntKind) (a b : ℤ) → is_narrow kind ≡ true → residue (modulus kind) (a *ℤ pos (counted 32 b)) ≡ by_shift 32 machine.Shl (residue words a) (residue words b) % modulus kind
unfolding result_of
left_32 kind a b narrow =
    let x = residue words a in
    let p = counted 32 b in
    let by : by_shift 32 machine.Shl x (residue words b) ≡ (x % 2 ^ 32 * p) % 2 ^ 32 % 2 ^ 32 = λ i. (x % 2 ^ 32 * 2 ^ count_32 b i) % 2 ^ 32 % 2 ^ 32 in
    let once : (x % 2 ^ 32 * p) % 2 ^ 32 % 2 ^ 32 ≡ (x * p) % 2 ^ 32 = ap (λ (n : ℕ). n % 2 ^ 32) (mul-mod_first x p (2 ^ 32)) ∙ (let e : (x * p) % 2 ^ 32 % 2 ^ 32 ≡ (x * p) % 2 ^ 32 = omega arith in e) in
    let half : residue 0x1_0000_0000 (a *ℤ pos p) ≡ (x * p) % 2 ^ 32 = sym (residue_32 (a *ℤ pos p)) ∙ ap (λ (n : ℕ). n % 2 ^ 32) (scaled a p) ∙ (let e : (x * p) % words % 2 ^ 32 ≡ (x * p) % 2 ^ 32 = omega arith in e) in
    sym (residue_narrow kind (a *ℤ pos p) narrow) ∙ ap (λ (n : ℕ). n % modulus kind) (half ∙ sym once ∙ sym by)

-- a shift by the width that a type asks for
by_width : (kind : IntKind) (P : ℕ → Type 0) → (is_narrow kind ≡ true → P 32) → (is_narrow kind ≡ false → P 64) → P (shift_width kind)
by_width kind P narrow wide = elim (is_narrow kind) as (λ b. is_narrow kind ≡ b → P (cond b 32 64)) [
  | true ↦ narrow
  | false ↦ wide
] refl

pub left_is : (kind : IntKind) (x z : ℕ) → word_arithmetic Shl kind x z ≡ Some (extended kind (by_shift (shift_width kind) machine.Shl (extended kind x) (extended kind z)))
unfolding extended word_of
left_is kind x z =
    let a = value_of kind x in
    let b = value_of kind z in
    by_residue Shl kind x z _ (a *ℤ pos (counted (count_modulus kind) b)) refl
    (ap (λ (w : ℕ). residue (modulus kind) (a *ℤ pos (counted w b))) (count_of_kind kind)
    ∙ by_width kind (λ w. residue (modulus kind) (a *ℤ pos (counted w b)) ≡ by_shift w machine.Shl (extended kind x) (extended kind z) % modulus kind)
    (λ narrow. left_32 kind a b narrow) (λ wide. left_64 kind a b (word_small kind x)))

-- the operation of a right shift
abbrev pub right_operation : IntKind → Operation
right_operation kind = if is_signed kind then machine.Sar else machine.Shr

right_signed : (kind : IntKind) (x : ℕ) (b : ℤ) → is_signed kind ≡ true
    → residue (modulus kind) (int_shr (value_of kind x) (residue (shift_width kind) b)) ≡ by_shift (shift_width kind) machine.Sar (extended kind x) (residue words b) % modulus kind
unfolding result_of
right_signed kind x b sign =
    let a = value_of kind x in
    by_width kind (λ w. residue (modulus kind) (int_shr a (residue w b)) ≡ by_shift w machine.Sar (extended kind x) (residue words b) % modulus kind)
    (λ narrow.
    let n = int_shr a (residue 32 b) in
    let by : by_shift 32 machine.Sar (extended kind x) (residue words b) ≡ residue (2 ^ 32) n % 2 ^ 32 = λ i. residue (2 ^ 32) (int_shr (signed_back_32 kind x sign narrow i) (count_32 b i)) % 2 ^ 32 in
    sym (residue_narrow kind n narrow) ∙ sym (mod_narrow kind (residue (2 ^ 32) n) narrow) ∙ ap (λ (m : ℕ). m % modulus kind) (sym by))
    (λ wide.
    let n = int_shr a (residue 64 b) in
    let back : signed 64 (low 64 (extended kind x)) ≡ a = ap (signed 64) (word_is (extended kind x) (word_small kind x)) ∙ signed_back kind x sign in
    let by : by_shift 64 machine.Sar (extended kind x) (residue words b) ≡ residue words n % words = λ i. residue words (int_shr (back i) (count_64 b i)) % words in
    sym (residue_twice kind n) ∙ sym (mod_twice kind (residue words n)) ∙ ap (λ (m : ℕ). m % modulus kind) (sym by))

residue_plain : (kind : IntKind) (n : ℕ) → residue (modulus kind) (pos n) ≡ n % modulus kind
unfolding residue
residue_plain kind n = refl

right_plain : (kind : IntKind) (x : ℕ) (b : ℤ) → is_signed kind ≡ false
    → residue (modulus kind) (int_shr (value_of kind x) (residue (shift_width kind) b)) ≡ by_shift (shift_width kind) machine.Shr (extended kind x) (residue words b) % modulus kind
unfolding result_of
right_plain kind x b plain =
    let g = extended kind x in
    by_width kind (λ w. residue (modulus kind) (int_shr (value_of kind x) (residue w b)) ≡ by_shift w machine.Shr g (residue words b) % modulus kind)
    (λ narrow.
    let p = counted 32 b in
    let small = narrow_small kind x plain narrow in
    let fits : g % 2 ^ 32 ≡ g = omega arith in
    let by : by_shift 32 machine.Shr g (residue words b) ≡ g / p % 2 ^ 32 = λ i. fits i / 2 ^ count_32 b i % 2 ^ 32 in
    ap (λ (n : ℤ). residue (modulus kind) (int_shr n (residue 32 b))) (plain_back kind x plain) ∙ residue_plain kind (g / p) ∙ sym (mod_narrow kind (g / p) narrow) ∙ ap (λ (m : ℕ). m % modulus kind) (sym by))
    (λ wide.
    let p = counted 64 b in
    let by : by_shift 64 machine.Shr g (residue words b) ≡ g / p % words = λ i. word_is g (word_small kind x) i / 2 ^ count_64 b i % words in
    ap (λ (n : ℤ). residue (modulus kind) (int_shr n (residue 64 b))) (plain_back kind x plain) ∙ residue_plain kind (g / p) ∙ sym (mod_twice kind (g / p)) ∙ ap (λ (m : ℕ). m % modulus kind) (sym by))

right_by_sign : (kind : IntKind) (x z : ℕ) (s : Bool) → is_signed kind ≡ s
    → residue (modulus kind) (int_shr (value_of kind x) (residue (shift_width kind) (value_of kind z))) ≡ by_shift (shift_width kind) (cond s machine.Sar machine.Shr) (extended kind x) (extended kind z) % modulus kind
unfolding extended word_of
right_by_sign kind x z true sign = right_signed kind x (value_of kind z) sign
right_by_sign kind x z false plain = right_plain kind x (value_of kind z) plain

pub right_is : (kind : IntKind) (x z : ℕ) → word_arithmetic Shr kind x z ≡ Some (extended kind (by_shift (shift_width kind) (right_operation kind) (extended kind x) (extended kind z)))
right_is kind x z =
    let a = value_of kind x in
    let b = value_of kind z in
    by_residue Shr kind x z _ (int_shr a (residue (count_modulus kind) b)) refl
    (ap (λ (w : ℕ). residue (modulus kind) (int_shr a (residue w b))) (count_of_kind kind) ∙ right_by_sign kind x z (is_signed kind) refl)

-- ---- division of numbers with a sign

-- rdx before a signed division: 64 copies of the sign
abbrev pub sign_word : ℕ → ℕ
sign_word x = low 64 (if is_negative 64 (low 64 x) then 2 ^ 64 - 1 else 0)

both_words : (x : ℕ) → x < words → signed 128 (low 64 (sign_word x) * 2 ^ 64 + low 64 x) ≡ signed 64 x
unfolding is_negative
both_words x small = elim (cases_lt x (2 ^ 63)) [
  | inl l ↦
      let e : x % 2 ^ 64 ≡ x = omega arith in
      let plus : nat_le (2 ^ 63) x ≡ false = grind (arith, nat_tests) in
      let none : 0 + x ≡ x = omega arith in
      rw (e, plus, none) (as_signed_low (2 ^ 128) x (omega arith) ∙ sym (as_signed_low (2 ^ 64) x (omega arith)))
  | inr g ↦
      let e : x % 2 ^ 64 ≡ x = omega arith in
      let minus : nat_le (2 ^ 63) x ≡ true = grind (arith, nat_tests) in
      let f : 2 ^ 128 - 1 - ((2 ^ 64 - 1) * 2 ^ 64 + x) ≡ 2 ^ 64 - 1 - x = omega arith in
      rw (e, minus) (as_signed_high (2 ^ 128) ((2 ^ 64 - 1) * 2 ^ 64 + x) (omega arith) ∙ ap negsuc f ∙ sym (as_signed_high (2 ^ 64) x (omega arith)))
]

pos_same : (a b : ℕ) → pos a ≡ pos b → a ≡ b
pos_same a b e = omega (arith, ints)

rest_le : (n k : ℕ) → n % k ≤ n
rest_le n k = let e = div-add-mod' n k in omega (arith, e)

plus_held : (q : ℕ) → q < 2 ^ 63 → holds_signed 64 (pos q) ≡ true
unfolding holds_signed
plus_held q small = grind (arith, nat_tests)

minus_held : (q : ℕ) → q ≤ 2 ^ 63 → holds_signed 64 (neg_ℤ (pos q)) ≡ true
unfolding holds_signed
minus_held zero small = refl
minus_held (suc j) small = grind (arith, nat_tests)

-- a quotient is a number of 64 bits, but for that of the least one and -1
held : (a b : ℤ) → negsuc (2 ^ 63 - 1) ≤ℤ a → a ≤ℤ pos (2 ^ 63 - 1) → (a ≡ least_long → b ≡ negsuc 0 → ⊥) → holds_signed 64 (int_div a b) ≡ true
held (pos n) (pos k) from to never = let q = div-le_self n k in let up : n ≤ 2 ^ 63 - 1 = omega (arith, ints) in plus_held (n / k) (omega arith)
held (pos n) (negsuc k) from to never = let q = div-le_self n (suc k) in let up : n ≤ 2 ^ 63 - 1 = omega (arith, ints) in minus_held (n / suc k) (omega arith)
held (negsuc a) (pos k) from to never = let q = div-le_self (suc a) k in let down : a ≤ 2 ^ 63 - 1 = omega (arith, ints) in minus_held (suc a / k) (omega arith)
held (negsuc a) (negsuc zero) from to never =
    let down : a ≤ 2 ^ 63 - 1 = omega (arith, ints) in
    elim (cases_lt a (2 ^ 63 - 1)) [
      | inl l ↦ plus_held (suc a / 1) (omega arith)
      | inr g ↦ let e : a ≡ 2 ^ 63 - 1 = omega arith in absurd (never (ap negsuc e) refl)
    ]
held (negsuc a) (negsuc (suc k)) from to never =
    let down : a ≤ 2 ^ 63 - 1 = omega (arith, ints) in
    let e = div-add-mod' (suc a) (suc (suc k)) in
    plus_held (suc a / suc (suc k)) (omega (arith, e))

not_held : holds_signed 64 (int_div least_long (negsuc 0)) ≡ false
unfolding holds_signed
not_held = refl

int_eq_is : (a b : ℤ) → int_eq a b ≡ true → a ≡ b
int_eq_is a b h = grind (arith, ints, nat_tests)

is_int_eq : (a b : ℤ) → a ≡ b → int_eq a b ≡ true
is_int_eq a b h = grind (arith, ints, nat_tests)

-- quotient and rest as words, by the numbers
abbrev pub quotient_of : IntKind → ℤ → ℤ → Option (ℕ × ℕ)
quotient_of kind a b = if has_no_quotient kind a b then None else Some (bits_of 64 (int_div a b), bits_of 64 (int_rem a b))

by_test : (none : Bool) (q r : ℤ) (kind : IntKind) → option_map word_of (option_map (wrapped kind) (if none then None else Some q)) ≡ option_map (λ (t : ℕ × ℕ). extended kind t.0) (if none then None else Some (bits_of 64 q, bits_of 64 r))
unfolding wrapped extended value_of
by_test true q r kind = refl
by_test false q r kind = ap (λ (n : ℕ). let o : Option ℕ = Some (word_of (number_of kind n)) in o) (sym (residue_twice kind q))

by_test_rest : (none : Bool) (q r : ℤ) (kind : IntKind) → option_map word_of (option_map (wrapped kind) (if none then None else Some r)) ≡ option_map (λ (t : ℕ × ℕ). extended kind t.1) (if none then None else Some (bits_of 64 q, bits_of 64 r))
unfolding wrapped extended value_of
by_test_rest true q r kind = refl
by_test_rest false q r kind = ap (λ (n : ℕ). let o : Option ℕ = Some (word_of (number_of kind n)) in o) (sym (residue_twice kind r))

-- what C's division and rest make of it
pub over_by : (kind : IntKind) (x z : ℕ) → word_arithmetic Div kind x z ≡ option_map (λ (q : ℕ × ℕ). extended kind q.0) (quotient_of kind (value_of kind x) (value_of kind z))
unfolding word_arithmetic arithmetic wrapped extended
over_by kind x z = by_test (has_no_quotient kind (value_of kind x) (value_of kind z)) (int_div (value_of kind x) (value_of kind z)) (int_rem (value_of kind x) (value_of kind z)) kind

pub rest_by : (kind : IntKind) (x z : ℕ) → word_arithmetic Rem kind x z ≡ option_map (λ (q : ℕ × ℕ). extended kind q.1) (quotient_of kind (value_of kind x) (value_of kind z))
unfolding word_arithmetic arithmetic wrapped extended
rest_by kind x z = by_test_rest (has_no_quotient kind (value_of kind x) (value_of kind z)) (int_div (value_of kind x) (value_of kind z)) (int_rem (value_of kind x) (value_of kind z)) kind

-- ---- with a sign

false_unless : (t : Bool) → (t ≡ true → ⊥) → t ≡ false
false_unless true h = absurd (h refl)
false_unless false h = refl

zero_word : (z : ℕ) → z < words → signed 64 z ≡ pos 0 → z ≡ 0
zero_word z small e = sym (residue-as_signed 0x8000_0000_0000_0000 z small) ∙ ap (residue words) e ∙ zero_is
  where
    zero_is : residue words (pos 0) ≡ 0
    zero_is = residue_power 0

word_zero : signed 64 0 ≡ pos 0
word_zero = as_signed_low words 0 (omega arith)

same_zero : (z : ℕ) (b : ℤ) → z < words → signed 64 z ≡ b → (z == 0) ≡ int_eq b (pos 0)
same_zero z b small e = elim (eqb_tells z 0) [
  | inl y ↦ y.0 ∙ sym (is_int_eq b (pos 0) (sym e ∙ ap (signed 64) y.1 ∙ word_zero))
  | inr n ↦ n.0 ∙ sym (false_unless (int_eq b (pos 0)) (λ t. n.1 (zero_word z small (e ∙ int_eq_is b (pos 0) t))))
]

-- narrow numbers have no quotient that is too large
not_least : (kind : IntKind) (x : ℕ) → is_signed kind ≡ true → is_long kind ≡ false → value_of kind x ≡ least_long → ⊥
unfolding value_of number_of
not_least I8 x s h e = let w = as_signed_within 0x80 (x % 0x100) (omega arith) in let l = w.0 in absurd (omega (arith, ints))
not_least U8 x s h e = absurd cc
not_least I16 x s h e = let w = as_signed_within 0x8000 (x % 0x1_0000) (omega arith) in let l = w.0 in absurd (omega (arith, ints))
not_least U16 x s h e = absurd cc
not_least I32 x s h e = let w = as_signed_within 0x8000_0000 (x % 0x1_0000_0000) (omega arith) in let l = w.0 in absurd (omega (arith, ints))
not_least U32 x s h e = absurd cc
not_least I64 x s h e = absurd cc
not_least U64 x s h e = absurd cc

-- the test of the instruction is C's
abbrev divided_by : Bool → ℤ → ℤ → Option (ℕ × ℕ)
divided_by none a b = if none then None else if holds_signed 64 (int_div a b) then Some (bits_of 64 (int_div a b), bits_of 64 (int_rem a b)) else None

divided_fits : (a b : ℤ) → holds_signed 64 (int_div a b) ≡ true → divided_by false a b ≡ Some (bits_of 64 (int_div a b), bits_of 64 (int_rem a b))
divided_fits a b h = ap (λ (t : Bool). let o : Option (ℕ × ℕ) = if t then Some (bits_of 64 (int_div a b), bits_of 64 (int_rem a b)) else None in o) h

divided_misses : (a b : ℤ) → holds_signed 64 (int_div a b) ≡ false → divided_by false a b ≡ None
divided_misses a b h = ap (λ (t : Bool). let o : Option (ℕ × ℕ) = if t then Some (bits_of 64 (int_div a b), bits_of 64 (int_rem a b)) else None in o) h

abbrev chosen : Bool → ℤ → ℤ → Option (ℕ × ℕ)
chosen none a b = if none then None else Some (bits_of 64 (int_div a b), bits_of 64 (int_rem a b))

long_tests : (long : Bool) (a b : ℤ) (ta tb : Bool) → int_eq a least_long ≡ ta → int_eq b (negsuc 0) ≡ tb → (long ≡ false → a ≡ least_long → ⊥) → negsuc (2 ^ 63 - 1) ≤ℤ a → a ≤ℤ pos (2 ^ 63 - 1)
    → divided_by false a b ≡ chosen (long && ta && tb) a b
long_tests true a b true true ea eb narrow from to =
    let x : a ≡ least_long = int_eq_is a least_long ea in
    let y : b ≡ negsuc 0 = int_eq_is b (negsuc 0) eb in
    divided_misses a b ((λ i. holds_signed 64 (int_div (x i) (y i))) ∙ not_held)
long_tests true a b true false ea eb narrow from to = divided_fits a b (held a b from to (λ x y. let c : true ≡ false = sym (is_int_eq b (negsuc 0) y) ∙ eb in absurd cc))
long_tests true a b false tb ea eb narrow from to = divided_fits a b (held a b from to (λ x y. let c : true ≡ false = sym (is_int_eq a least_long x) ∙ ea in absurd cc))
long_tests false a b ta tb ea eb narrow from to = divided_fits a b (held a b from to (λ x y. narrow refl x))

-- division of words is that of the numbers
pub signed_division : (kind : IntKind) (x z : ℕ) → is_signed kind ≡ true
    → divided_signed 64 (low 64 (sign_word (extended kind x))) (low 64 (extended kind x)) (low 64 (extended kind z)) ≡ quotient_of kind (value_of kind x) (value_of kind z)
unfolding divided_signed
signed_division kind x z sign =
    let g = extended kind x in
    let h = extended kind z in
    let a = value_of kind x in
    let b = value_of kind z in
    let ez = word_is h (word_small kind z) in
    let ea : signed 128 (low 64 (sign_word g) * 2 ^ 64 + low 64 g) ≡ a = both_words g (word_small kind x) ∙ signed_back kind x sign in
    let eb : signed 64 (low 64 h) ≡ b = ap (signed 64) ez ∙ signed_back kind z sign in
    let within = as_signed_within 0x8000_0000_0000_0000 g (word_small kind x) in
    let from : negsuc (2 ^ 63 - 1) ≤ℤ a = subst (λ (n : ℤ). negsuc (2 ^ 63 - 1) ≤ℤ n) (signed_back kind x sign) within.0 in
    let to : a ≤ℤ pos (2 ^ 63 - 1) = subst (λ (n : ℤ). n ≤ℤ pos (2 ^ 63 - 1)) (signed_back kind x sign) within.1 in
    (λ i. divided_by (ez i == 0) (ea i) (eb i)) ∙ by_zero kind a b (h == 0) (int_eq b (pos 0)) (same_zero h b (word_small kind z) (signed_back kind z sign)) refl
    (long_tests (is_long kind) a b (int_eq a least_long) (int_eq b (negsuc 0)) refl refl (λ short e. not_least kind x sign short e) from to)
  where
    by_zero : (kind : IntKind) (a b : ℤ) (s t : Bool) → s ≡ t → int_eq b (pos 0) ≡ t → divided_by false a b ≡ chosen (is_long kind && int_eq a least_long && int_eq b (negsuc 0)) a b → divided_by s a b ≡ quotient_of kind a b
    by_zero kind a b s true same is k = ap (λ (u : Bool). divided_by u a b) same ∙ ap (λ (u : Bool). chosen (u || is_long kind && int_eq a least_long && int_eq b (negsuc 0)) a b) (sym is)
    by_zero kind a b s false same is k = ap (λ (u : Bool). divided_by u a b) same ∙ k ∙ ap (λ (u : Bool). chosen (u || is_long kind && int_eq a least_long && int_eq b (negsuc 0)) a b) (sym is)

-- ---- without a sign

pub not_long : (kind : IntKind) → is_signed kind ≡ false → is_long kind ≡ false
not_long I8 h = absurd cc
not_long U8 h = refl
not_long I16 h = absurd cc
not_long U16 h = refl
not_long I32 h = absurd cc
not_long U32 h = refl
not_long I64 h = absurd cc
not_long U64 h = refl

plain_words : (kind : IntKind) (g h : ℕ) → is_long kind ≡ false → g < words → divided 64 0 g h ≡ quotient_of kind (pos g) (pos h)
unfolding divided residue
plain_words kind g h short small = elim (eqb_tells h 0) [
  | inl y ↦ let e = y.0 in let zero : int_eq (pos h) (pos 0) ≡ true = is_int_eq (pos h) (pos 0) (ap pos y.1) in rw (e, zero) refl
  | inr n ↦
      let e = n.0 in
      let some : int_eq (pos h) (pos 0) ≡ false = false_unless (int_eq (pos h) (pos 0)) (λ t. n.1 (pos_same h 0 (int_eq_is (pos h) (pos 0) t))) in
      let f : 0 * 2 ^ 64 + g ≡ g = omega arith in
      let q = div-le_self g h in
      let r = rest_le g h in
      let less : nat_lt (g / h) (2 ^ 64) ≡ true = grind (arith, nat_tests) in
      let eq : g / h % words ≡ g / h = omega arith in
      let er : g % h % words ≡ g % h = omega arith in
      rw (e, f, less, some, short, eq, er) refl
]

pub plain_division : (kind : IntKind) (x z : ℕ) → is_signed kind ≡ false
    → divided 64 0 (low 64 (extended kind x)) (low 64 (extended kind z)) ≡ quotient_of kind (value_of kind x) (value_of kind z)
unfolding divided
plain_division kind x z plain =
    let g = extended kind x in
    let h = extended kind z in
    let eg = word_is g (word_small kind x) in
    let eh = word_is h (word_small kind z) in
    (λ i. divided 64 0 (eg i) (eh i)) ∙ plain_words kind g h (not_long kind plain) (word_small kind x) ∙ (let ba = sym (plain_back kind x plain) in let bb = sym (plain_back kind z plain) in λ i. quotient_of kind (ba i) (bb i))

-- ---- comparisons

less_is : (a b : ℤ) → a <ℤ b → int_lt a b ≡ true
less_is a b h = grind (arith, ints, nat_tests)

is_less : (a b : ℤ) → int_lt a b ≡ true → a <ℤ b
is_less a b h = grind (arith, ints, nat_tests)

most_is : (a b : ℤ) → a ≤ℤ b → int_le a b ≡ true
most_is a b h = grind (arith, ints, nat_tests)

is_most : (a b : ℤ) → int_le a b ≡ true → a ≤ℤ b
is_most a b h = grind (arith, ints, nat_tests)

same_tests : (b c : Bool) → (b ≡ true → c ≡ true) → (c ≡ true → b ≡ true) → b ≡ c
same_tests true c f g = sym (f refl)
same_tests false true f g = g refl
same_tests false false f g = refl

differs_is : (b : Bool) → (b ≡ true → ⊥) → not b ≡ true
differs_is true h = absurd (h refl)
differs_is false h = refl

is_differs : (b : Bool) → not b ≡ true → b ≡ true → ⊥
is_differs true h e = absurd cc
is_differs false h e = absurd cc

signed_same : (g h : ℕ) → g < words → h < words → signed 64 g ≡ signed 64 h → g ≡ h
signed_same g h small_g small_h e = sym (residue-as_signed 0x8000_0000_0000_0000 g small_g) ∙ ap (residue words) e ∙ residue-as_signed 0x8000_0000_0000_0000 h small_h

abbrev pub compared_by : ℕ → ℕ → Flags → Flags
compared_by g h before = flags_after Cmp 64 g h before

signed_compares : (op : Comparison) (g h : ℕ) (before : Flags) → g < words → h < words → compares op (signed 64 g) (signed 64 h) ≡ holds (condition op true) (compared_by g h before)
unfolding compares
signed_compares Less g h before p q = let c = compare_64 g h before p q in same_tests _ _ (λ t. c.less.1 (is_less _ _ t)) (λ t. less_is _ _ (c.less.0 t))
signed_compares LessOrEqual g h before p q = let c = compare_64 g h before p q in same_tests _ _ (λ t. c.not_greater.1 (is_most _ _ t)) (λ t. most_is _ _ (c.not_greater.0 t))
signed_compares Greater g h before p q = let c = compare_64 g h before p q in same_tests _ _ (λ t. c.greater.1 (is_less _ _ t)) (λ t. less_is _ _ (c.greater.0 t))
signed_compares GreaterOrEqual g h before p q = let c = compare_64 g h before p q in same_tests _ _ (λ t. c.not_less.1 (is_most _ _ t)) (λ t. most_is _ _ (c.not_less.0 t))
signed_compares Equal g h before p q = let c = compare_64 g h before p q in same_tests _ _ (λ t. c.equal.1 (signed_same g h p q (int_eq_is _ _ t))) (λ t. is_int_eq _ _ (ap (signed 64) (c.equal.0 t)))
signed_compares NotEqual g h before p q = let c = compare_64 g h before p q in
    same_tests _ _ (λ t. c.unequal.1 (λ e. is_differs (int_eq (signed 64 g) (signed 64 h)) t (is_int_eq _ _ (ap (signed 64) e)))) (λ t. differs_is (int_eq (signed 64 g) (signed 64 h)) (λ e. c.unequal.0 t (signed_same g h p q (int_eq_is _ _ e))))

pos_less : (g h : ℕ) → g < h → pos g <ℤ pos h
pos_less g h l = omega (arith, ints)

less_pos : (g h : ℕ) → pos g <ℤ pos h → g < h
less_pos g h l = omega (arith, ints)

pos_most : (g h : ℕ) → g ≤ h → pos g ≤ℤ pos h
pos_most g h l = omega (arith, ints)

most_pos : (g h : ℕ) → pos g ≤ℤ pos h → g ≤ h
most_pos g h l = omega (arith, ints)

plain_compares : (op : Comparison) (g h : ℕ) (before : Flags) → g < words → h < words → compares op (pos g) (pos h) ≡ holds (condition op false) (compared_by g h before)
unfolding compares
plain_compares Less g h before p q = let c = compare_64 g h before p q in same_tests _ _ (λ t. c.below.1 (less_pos g h (is_less _ _ t))) (λ t. less_is _ _ (pos_less g h (c.below.0 t)))
plain_compares LessOrEqual g h before p q = let c = compare_64 g h before p q in same_tests _ _ (λ t. c.at_most.1 (most_pos g h (is_most _ _ t))) (λ t. most_is _ _ (pos_most g h (c.at_most.0 t)))
plain_compares Greater g h before p q = let c = compare_64 g h before p q in same_tests _ _ (λ t. c.above.1 (less_pos h g (is_less _ _ t))) (λ t. less_is _ _ (pos_less h g (c.above.0 t)))
plain_compares GreaterOrEqual g h before p q = let c = compare_64 g h before p q in same_tests _ _ (λ t. c.at_least.1 (most_pos h g (is_most _ _ t))) (λ t. most_is _ _ (pos_most h g (c.at_least.0 t)))
plain_compares Equal g h before p q = let c = compare_64 g h before p q in same_tests _ _ (λ t. c.equal.1 (pos_same g h (int_eq_is _ _ t))) (λ t. is_int_eq _ _ (ap pos (c.equal.0 t)))
plain_compares NotEqual g h before p q = let c = compare_64 g h before p q in
    same_tests _ _ (λ t. c.unequal.1 (λ e. is_differs (int_eq (pos g) (pos h)) t (is_int_eq _ _ (ap pos e)))) (λ t. differs_is (int_eq (pos g) (pos h)) (λ e. c.unequal.0 t (pos_same g h (int_eq_is _ _ e))))

compares_by : (op : Comparison) (kind : IntKind) (x z : ℕ) (before : Flags) (s : Bool) → is_signed kind ≡ s
    → compares op (value_of kind x) (value_of kind z) ≡ holds (condition op s) (compared_by (extended kind x) (extended kind z) before)
compares_by op kind x z before true sign =
    (let a = sym (signed_back kind x sign) in let b = sym (signed_back kind z sign) in λ i. compares op (a i) (b i)) ∙ signed_compares op (extended kind x) (extended kind z) before (word_small kind x) (word_small kind z)
compares_by op kind x z before false plain =
    (let a = plain_back kind x plain in let b = plain_back kind z plain in λ i. compares op (a i) (b i)) ∙ plain_compares op (extended kind x) (extended kind z) before (word_small kind x) (word_small kind z)

-- the condition of a comparison's flags is C's comparison
pub compares_is : (op : Comparison) (kind : IntKind) (x z : ℕ) (before : Flags)
    → word_compares op kind x z ≡ (if holds (condition op (is_signed kind)) (flags_after Cmp 64 (low 64 (extended kind x)) (low 64 (extended kind z)) before) then 1 else 0)
unfolding word_compares
compares_is op kind x z before =
    let ex = sym (word_is (extended kind x) (word_small kind x)) in
    let ez = sym (word_is (extended kind z) (word_small kind z)) in
    ap (λ (t : Bool). let n : ℕ = if t then 1 else 0 in n) (compares_by op kind x z before (is_signed kind) refl ∙ (λ i. holds (condition op (is_signed kind)) (compared_by (ex i) (ez i) before)))
