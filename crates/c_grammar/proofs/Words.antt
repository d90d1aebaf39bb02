-- Numbers of the language are words of their types.
use Rattle.std.proofs.Common.{◌≡◌, ℕ, ◌+◌, ◌-◌, ◌*◌, ◌/◌, ◌%◌, ◌^◌, ◌<◌, ◌≤◌, Bool, true, false, ◌&&◌, nat_lt, if◌then◌else◌, List, [], ◌∷◌, Option, Some, None, refl, sym, ◌∙◌, ap, subst, arith, pos, negsuc}
use Rattle.std.specs.Prelude.{find, option_map, option_and_then}
use Rattle.std.specs.List.{list_all}
use Rattle.std.proofs.Math.Nat.{mod-eq_of_lt, mod-lt, add-mul-mod_self_left}
use Rattle.std.proofs.lemmas.Bool.{ltb-true, ltb-false, lt-ltb, le-ltb}
use Rattle.std.proofs.Common.{eq-eqb}
use Rattle.mx_base.specs.declared.numbers.IntKind.{IntKind}
use Rattle.mx_base.specs.declared.numbers.IntKind.TheVariants.{I8, U8, I16, U16, I32, U32, I64, U64}
use Rattle.mx_base.specs.Numbers.{extended, value_of, number_of as number_in, as_signed, word_of, residue}
use Rattle.c_tokens.specs.declared.numbers.Number.{Number}
use Rattle.c_tokens.specs.declared.numbers.Suffix.{Suffix}
use Rattle.c_tokens.specs.Numbers.{number_of, typed, kind_for, kinds_of, limit_of, suffix_of, has_digits, is_hexadecimal, digits_of, ending_of, value_of as digits_value, base_of}
use Rattle.c_tree.specs.Formed.{is_number, has_number_type}

pub nothing_is_int : is_number 0 I32 ≡ true
unfolding extended value_of number_in as_signed word_of residue
nothing_is_int = refl

both : {a b : Bool} → a ≡ true → b ≡ true → (a && b) ≡ true
both {a = true} {b = true} p q = refl
both {a = true} {b = false} p q = q
both {a = false} {b = b} p q = cc

signed_below : (m v : ℕ) → v < m → nat_lt v (m / 2) ≡ true → as_signed m (v % m) ≡ pos v
unfolding as_signed
signed_below m v h b =
    let e : v % m ≡ v = mod-eq_of_lt h in
    ap (λ z. if nat_lt z (m / 2) then pos z else negsuc (m - 1 - z)) e ∙ ap (λ z. if z then pos v else negsuc (m - 1 - v)) b

word_small : (v : ℕ) → v < 0x1_0000_0000_0000_0000 → word_of (pos v) ≡ v
unfolding word_of residue
word_small v h = mod-eq_of_lt h

int_word : (v : ℕ) → v < 2 ^ 31 → extended I32 v ≡ v
unfolding extended value_of number_in
int_word v h =
    let f : v < 0x1_0000_0000 = omega (arith, h) in
    let g : v < 0x1_0000_0000_0000_0000 = omega (arith, h) in
    ap word_of (signed_below 0x1_0000_0000 v f (lt-ltb v (2 ^ 31) h)) ∙ word_small v g

long_word : (v : ℕ) → v < 2 ^ 63 → extended I64 v ≡ v
unfolding extended value_of number_in
long_word v h =
    let f : v < 0x1_0000_0000_0000_0000 = omega (arith, h) in
    ap word_of (signed_below 0x1_0000_0000_0000_0000 v f (lt-ltb v (2 ^ 63) h)) ∙ word_small v f

unsigned_word : (v : ℕ) → v < 2 ^ 32 → extended U32 v ≡ v
unfolding extended value_of number_in
unsigned_word v h =
    let f : v < 0x1_0000_0000 = omega (arith, h) in
    let g : v < 0x1_0000_0000_0000_0000 = omega (arith, h) in
    ap (λ z. word_of (pos z)) (mod-eq_of_lt f) ∙ word_small v g

unsigned_long_word : (v : ℕ) → v < 2 ^ 64 → extended U64 v ≡ v
unfolding extended value_of number_in
unsigned_long_word v h =
    let f : v < 0x1_0000_0000_0000_0000 = omega (arith, h) in
    ap (λ z. word_of (pos z)) (mod-eq_of_lt f) ∙ word_small v f

fits : (kind : IntKind) (v : ℕ) → has_number_type kind ≡ true → nat_lt v (limit_of kind) ≡ true → is_number v kind ≡ true
fits I8 v t h = cc
fits U8 v t h = cc
fits I16 v t h = cc
fits U16 v t h = cc
fits I32 v t h = both refl (eq-eqb (extended I32 v) v (int_word v (ltb-true v (2 ^ 31) h)))
fits U32 v t h = both refl (eq-eqb (extended U32 v) v (unsigned_word v (ltb-true v (2 ^ 32) h)))
fits I64 v t h = both refl (eq-eqb (extended I64 v) v (long_word v (ltb-true v (2 ^ 63) h)))
fits U64 v t h = both refl (eq-eqb (extended U64 v) v (unsigned_long_word v (ltb-true v (2 ^ 64) h)))

-- what is found in a list is of it and passes the test
left_of : (a b : Bool) → (a && b) ≡ true → a ≡ true
left_of true b h = refl
left_of false b h = h

right_of : (a b : Bool) → (a && b) ≡ true → b ≡ true
right_of true b h = h
right_of false b h = cc

found_test : (p q : IntKind → Bool) (k kind : IntKind) (rest : Option IntKind) → q k ≡ true → (rest ≡ Some kind → (p kind ≡ true) × (q kind ≡ true)) → (b : Bool) → p k ≡ b → (if b then Some k else rest) ≡ Some kind → (p kind ≡ true) × (q kind ≡ true)
found_test p q k kind rest t f true h e = let s : k ≡ kind = cc in (subst (λ z. p z ≡ true) s h, subst (λ z. q z ≡ true) s t)
found_test p q k kind rest t f false h e = f e

found : (p q : IntKind → Bool) (kinds : List IntKind) (kind : IntKind) → list_all q kinds ≡ true → find p kinds ≡ Some kind → (p kind ≡ true) × (q kind ≡ true)
found p q [] kind a e = cc
found p q (k ∷ ks) kind a e = found_test p q k kind (find p ks) (left_of (q k) (list_all q ks) a) (found p q ks kind (right_of (q k) (list_all q ks) a)) (p k) refl e

all_typed : (h u l : Bool) → list_all has_number_type (kinds_of h u l) ≡ true
all_typed false false false = refl
all_typed true false false = refl
all_typed false false true = refl
all_typed true false true = refl
all_typed false true false = refl
all_typed true true false = refl
all_typed false true true = refl
all_typed true true true = refl

typed_fits : (value : ℕ) (h : Bool) (s : Suffix) (m : Number) → typed value h s ≡ Some m → is_number m.value m.kind ≡ true
unfolding kind_for
typed_fits value h s m e = by_kind (kind_for value h s) refl e
  where
    by_kind : (o : Option IntKind) → kind_for value h s ≡ o → option_map (λ kind. record { value = value; kind = kind }) o ≡ Some m → is_number m.value m.kind ≡ true
    by_kind None f g = cc
    by_kind (Some kind) f g =
        let x = found (λ k. nat_lt value (limit_of k)) has_number_type (kinds_of h s.unsigned s.long) kind (all_typed h s.unsigned s.long) f in
        let r : record { value = value; kind = kind } ≡ m = cc in
        subst (λ z. is_number z.value z.kind ≡ true) r (fits kind value x.1 x.0)

pub numbers_are_words : (text : List ℕ) (m : Number) → number_of text ≡ Some m → is_number m.value m.kind ≡ true
unfolding number_of
numbers_are_words text m e = by_digits (has_digits (is_hexadecimal text) (digits_of text)) e
  where
    by_suffix : (o : Option Suffix) → option_and_then (typed (digits_value (base_of (is_hexadecimal text)) (digits_of text)) (is_hexadecimal text)) o ≡ Some m → is_number m.value m.kind ≡ true
    by_suffix None f = cc
    by_suffix (Some s) f = typed_fits (digits_value (base_of (is_hexadecimal text)) (digits_of text)) (is_hexadecimal text) s m f

    by_digits : (b : Bool) → (if b then option_and_then (typed (digits_value (base_of (is_hexadecimal text)) (digits_of text)) (is_hexadecimal text)) (suffix_of (ending_of text)) else None) ≡ Some m → is_number m.value m.kind ≡ true
    by_digits true f = by_suffix (suffix_of (ending_of text)) f
    by_digits false f = cc

-- the word of a `char` is the word of an `int`
neg_word : (a : ℕ) → a < 128 → word_of (negsuc a) ≡ 0x1_0000_0000_0000_0000 - 1 - a
unfolding word_of residue
neg_word a h =
    let f : a < 0x1_0000_0000_0000_0000 = omega (arith, h) in
    ap (λ z. 0x1_0000_0000_0000_0000 - 1 - z) (mod-eq_of_lt f)

signed_high : (a : ℕ) → a < 128 → as_signed 0x1_0000_0000 (0x1_0000_0000 - 1 - a) ≡ negsuc a
unfolding as_signed
signed_high a h =
    let g : 0x8000_0000 ≤ 0x1_0000_0000 - 1 - a = omega (arith, h) in
    let e : 0x1_0000_0000 - 1 - (0x1_0000_0000 - 1 - a) ≡ a = omega (arith, h) in
    ap (λ z. if z then pos (0x1_0000_0000 - 1 - a) else negsuc (0x1_0000_0000 - 1 - (0x1_0000_0000 - 1 - a))) (le-ltb (0x1_0000_0000 - 1 - a) 0x8000_0000 g) ∙ ap negsuc e

high_word : (a : ℕ) → a < 128 → extended I32 (0x1_0000_0000_0000_0000 - 1 - a) ≡ 0x1_0000_0000_0000_0000 - 1 - a
unfolding extended value_of number_in
high_word a h =
    let x : ℕ = 0x1_0000_0000 - 1 - a in
    let e : 0x1_0000_0000_0000_0000 - 1 - a ≡ (0x1_0000_0000 - 1 - a) + 0x1_0000_0000 * 0xffff_ffff = omega (arith, h) in
    let f : 0x1_0000_0000 - 1 - a < 0x1_0000_0000 = omega (arith, h) in
    let m : (0x1_0000_0000_0000_0000 - 1 - a) % 0x1_0000_0000 ≡ 0x1_0000_0000 - 1 - a = ap (λ z. z % 0x1_0000_0000) e ∙ add-mul-mod_self_left (0x1_0000_0000 - 1 - a) 0x1_0000_0000 0xffff_ffff ∙ mod-eq_of_lt f in
    ap (λ z. word_of (as_signed 0x1_0000_0000 z)) m ∙ ap word_of (signed_high a h) ∙ neg_word a h

char_word : (m : ℕ) → m < 256 → (b : Bool) → nat_lt m 128 ≡ b → is_number (word_of (as_signed 256 m)) I32 ≡ true
unfolding as_signed
char_word m h true e =
    let l : m < 128 = ltb-true m 128 e in
    let f : m < 2 ^ 31 = omega (arith, l) in
    let g : m < 0x1_0000_0000_0000_0000 = omega (arith, l) in
    let s : (if nat_lt m 128 then pos m else negsuc (255 - m)) ≡ pos m = ap (λ z. if z then pos m else negsuc (255 - m)) e in
    subst (λ z. is_number (word_of z) I32 ≡ true) (sym s) (subst (λ z. is_number z I32 ≡ true) (sym (word_small m g)) (fits I32 m refl (lt-ltb m (2 ^ 31) f)))
char_word m h false e =
    let l : 128 ≤ m = ltb-false m 128 e in
    let f : 255 - m < 128 = omega (arith, l) in
    let s : (if nat_lt m 128 then pos m else negsuc (255 - m)) ≡ negsuc (255 - m) = ap (λ z. if z then pos m else negsuc (255 - m)) e in
    subst (λ z. is_number (word_of z) I32 ≡ true) (sym s) (subst (λ z. is_number z I32 ≡ true) (sym (neg_word (255 - m) f)) (both refl (eq-eqb _ _ (high_word (255 - m) f))))

pub bytes_are_words : (v : ℕ) → is_number (extended I8 v) I32 ≡ true
unfolding extended value_of number_in
bytes_are_words v = char_word (v % 256) (mod-lt v (omega arith)) (nat_lt (v % 256) 128) refl
