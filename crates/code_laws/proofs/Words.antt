-- Numbers modulo 2^64 and modulo the size of a type.
use Rattle.std.proofs.Common.{◌≡◌, ℕ, zero, suc, ◌+◌, ◌-◌, ◌*◌, ◌/◌, ◌%◌, ◌^◌, ◌<◌, ◌≤◌, inl, inr, true, false, Option, Some, refl, arith, ap, ◌∙◌, sym}
use Rattle.std.specs.Prelude.{ℤ, pos, negsuc, neg_ℤ, ◌*ℤ◌, bit_and, bit_or, bit_xor}
use Rattle.std.specs.Option.{option_map}
use Rattle.std.proofs.lemmas.Bool.{cases_lt}
use Rattle.std.proofs.Math.Nat.{add-mul, mul-add, mul_assoc}
use Rattle.std.proofs.lemmas.Nat.{mul-mod, mul-mod_first, mul-mod_second}
use Rattle.mx_base.specs.declared.numbers.IntKind.{IntKind}
use Rattle.mx_base.specs.declared.numbers.IntKind.TheVariants.{I8, U8, I16, U16, I32, U32, I64, U64}
use Rattle.mx_base.specs.Numbers.{modulus, is_signed, residue, as_signed, number_of, value_of, wrapped, word_of, extended}
use Rattle.mx_base.specs.declared.operators.Arithmetic.{Arithmetic}
use Rattle.mx_base.specs.declared.operators.Arithmetic.TheVariants.{Mul, BitAnd, BitXor, BitOr}
use Rattle.mx_base.specs.Operators.{whole, arithmetic, word_arithmetic}
use Rattle.mx_base.proofs.NumbersLemmas.{as_signed_low, as_signed_high, residue-lt, residue-as_signed}
use Rattle.x86_forms.specs.Arithmetic.{Operation, Or, And, Xor, Imul, low, signed, result_of}
use Rattle.step_code.specs.Steps.{is_narrow}

abbrev pub words : ℕ
words = 0x1_0000_0000_0000_0000

-- ---- residues of residues

-- what is congruent modulo 2^64 is so modulo the size of a type
pub residue_twice : (kind : IntKind) (n : ℤ) → residue words n % modulus kind ≡ residue (modulus kind) n
unfolding residue
residue_twice I8 (pos a) = omega arith
residue_twice U8 (pos a) = omega arith
residue_twice I16 (pos a) = omega arith
residue_twice U16 (pos a) = omega arith
residue_twice I32 (pos a) = omega arith
residue_twice U32 (pos a) = omega arith
residue_twice I64 (pos a) = omega arith
residue_twice U64 (pos a) = omega arith
residue_twice I8 (negsuc a) = omega arith
residue_twice U8 (negsuc a) = omega arith
residue_twice I16 (negsuc a) = omega arith
residue_twice U16 (negsuc a) = omega arith
residue_twice I32 (negsuc a) = omega arith
residue_twice U32 (negsuc a) = omega arith
residue_twice I64 (negsuc a) = omega arith
residue_twice U64 (negsuc a) = omega arith

pub residue_32 : (n : ℤ) → residue words n % 2 ^ 32 ≡ residue 0x1_0000_0000 n
residue_32 n = residue_twice U32 n

-- and modulo 2^32 where the type has at most 32 bits
pub residue_narrow : (kind : IntKind) (n : ℤ) → is_narrow kind ≡ true → residue 0x1_0000_0000 n % modulus kind ≡ residue (modulus kind) n
unfolding residue
residue_narrow I8 (pos a) h = omega arith
residue_narrow U8 (pos a) h = omega arith
residue_narrow I16 (pos a) h = omega arith
residue_narrow U16 (pos a) h = omega arith
residue_narrow I32 (pos a) h = omega arith
residue_narrow U32 (pos a) h = omega arith
residue_narrow I64 (pos a) h = absurd cc
residue_narrow U64 (pos a) h = absurd cc
residue_narrow I8 (negsuc a) h = omega arith
residue_narrow U8 (negsuc a) h = omega arith
residue_narrow I16 (negsuc a) h = omega arith
residue_narrow U16 (negsuc a) h = omega arith
residue_narrow I32 (negsuc a) h = omega arith
residue_narrow U32 (negsuc a) h = omega arith
residue_narrow I64 (negsuc a) h = absurd cc
residue_narrow U64 (negsuc a) h = absurd cc

-- the low bits of a word are those of the number
pub mod_twice : (kind : IntKind) (m : ℕ) → m % words % modulus kind ≡ m % modulus kind
mod_twice I8 m = omega arith
mod_twice U8 m = omega arith
mod_twice I16 m = omega arith
mod_twice U16 m = omega arith
mod_twice I32 m = omega arith
mod_twice U32 m = omega arith
mod_twice I64 m = omega arith
mod_twice U64 m = omega arith

pub mod_narrow : (kind : IntKind) (m : ℕ) → is_narrow kind ≡ true → m % 2 ^ 32 % modulus kind ≡ m % modulus kind
mod_narrow I8 m h = omega arith
mod_narrow U8 m h = omega arith
mod_narrow I16 m h = omega arith
mod_narrow U16 m h = omega arith
mod_narrow I32 m h = omega arith
mod_narrow U32 m h = omega arith
mod_narrow I64 m h = absurd cc
mod_narrow U64 m h = absurd cc

-- ---- products

-- the residue of a negative number
negative_residue : (t s q : ℕ) → t + s ≡ words * q → residue words (neg_ℤ (pos t)) ≡ s % words
unfolding residue
negative_residue zero s q e = omega arith
negative_residue (suc j) s q e = omega arith

residue_pos : (a : ℕ) → residue words (pos a) ≡ a % words
unfolding residue
residue_pos a = refl

-- what makes a negative number one that is not
abbrev back_of : ℕ → ℕ
back_of a = a / words + 1

filled : (a : ℕ) → suc a + residue words (negsuc a) ≡ words * back_of a
unfolding residue
filled a = omega arith

turned : (a q : ℕ) → a * (words * q) ≡ words * (a * q)
turned a q = omega arith

same_mod : (u v w s t : ℕ) → u + v ≡ words * s → v + w ≡ words * t → u % words ≡ w % words
same_mod u v w s t e f = omega arith

negative_word : (a : ℕ) → residue words (negsuc a) ≡ words - 1 - a % words
unfolding residue
negative_word a = refl

-- the product of two numbers has the product of their residues
pub product : (a b : ℤ) → residue words (a *ℤ b) ≡ (residue words a * residue words b) % words
product (pos a) (pos b) = residue_pos (a * b) ∙ mul-mod a b words ∙ (λ i. (sym (residue_pos a) i * sym (residue_pos b) i) % words)
product (negsuc a) (pos b) =
    let r = residue words (negsuc a) in
    negative_residue (suc a * b) (r * b) (back_of a * b) (sym (add-mul (suc a) r b) ∙ ap (λ (n : ℕ). n * b) (filled a) ∙ mul_assoc words (back_of a) b)
    ∙ sym (mul-mod_second r b words) ∙ ap (λ (n : ℕ). (r * n) % words) (sym (residue_pos b))
product (pos a) (negsuc b) =
    let r = residue words (negsuc b) in
    negative_residue (a * suc b) (a * r) (a * back_of b) (sym (mul-add a (suc b) r) ∙ ap (λ (n : ℕ). a * n) (filled b) ∙ turned a (back_of b))
    ∙ sym (mul-mod_first a r words) ∙ ap (λ (n : ℕ). (n * r) % words) (sym (residue_pos a))
product (negsuc a) (negsuc b) =
    let r = residue words (negsuc a) in
    let t = residue words (negsuc b) in
    residue_pos (suc a * suc b) ∙ same_mod (suc a * suc b) (r * suc b) (r * t) (back_of a * suc b) (r * back_of b)
    (sym (add-mul (suc a) r (suc b)) ∙ ap (λ (n : ℕ). n * suc b) (filled a) ∙ mul_assoc words (back_of a) (suc b))
    (sym (mul-add r (suc b) t) ∙ ap (λ (n : ℕ). r * n) (filled b) ∙ turned r (back_of b))

-- ---- the word of a number, and the number of a word

pub word_small : (kind : IntKind) (x : ℕ) → extended kind x < words
unfolding extended word_of
word_small kind x = residue-lt words (value_of kind x) (omega arith)

pub word_is : (m : ℕ) → m < words → m % words ≡ m
word_is m small = omega arith

pub wide_same : (kind : IntKind) (x : ℕ) → is_narrow kind ≡ false → x < 2 ^ 64 → extended kind x ≡ x
unfolding extended word_of value_of number_of
wide_same I8 x h small = absurd cc
wide_same U8 x h small = absurd cc
wide_same I16 x h small = absurd cc
wide_same U16 x h small = absurd cc
wide_same I32 x h small = absurd cc
wide_same U32 x h small = absurd cc
wide_same I64 x h small = let e : x % words ≡ x = omega arith in rw e (residue-as_signed 0x8000_0000_0000_0000 x small)
wide_same U64 x h small = let e : x % words % words ≡ x = omega arith in residue_pos (x % words) ∙ e

-- a signed number of at most 64 bits, from its word
word_signed : (h n : ℕ) → n < 2 * h → h ≤ 2 ^ 63 → as_signed words (residue words (as_signed (2 * h) n)) ≡ as_signed (2 * h) n
word_signed h n below few = elim (cases_lt n h) [
  | inl l ↦ let s = as_signed_low (2 * h) n (omega arith) in let r : residue words (pos n) ≡ n = residue_pos n ∙ (let e : n % words ≡ n = omega arith in e) in
      rw (s, r) (as_signed_low words n (omega arith))
  | inr g ↦ let s = as_signed_high (2 * h) n (omega arith) in let r = negative_word (2 * h - 1 - n) in let e : words - 1 - (2 * h - 1 - n) % words ≡ words - 2 * h + n = omega arith in
      let f : words - 1 - (words - 2 * h + n) ≡ 2 * h - 1 - n = omega arith in
      rw (s, r, e) (as_signed_high words (words - 2 * h + n) (omega arith) ∙ ap negsuc f)
]

-- and of at most 32 bits, from the low half of its word
half_signed : (h n : ℕ) → n < 2 * h → h ≤ 2 ^ 31 → as_signed (2 ^ 32) (residue words (as_signed (2 * h) n) % 2 ^ 32) ≡ as_signed (2 * h) n
half_signed h n below few = elim (cases_lt n h) [
  | inl l ↦ let s = as_signed_low (2 * h) n (omega arith) in let r : residue words (pos n) % 2 ^ 32 ≡ n = ap (λ (m : ℕ). m % 2 ^ 32) (residue_pos n) ∙ (let e : n % words % 2 ^ 32 ≡ n = omega arith in e) in
      rw (s, r) (as_signed_low (2 ^ 32) n (omega arith))
  | inr g ↦ let s = as_signed_high (2 * h) n (omega arith) in
      let r : residue words (negsuc (2 * h - 1 - n)) % 2 ^ 32 ≡ 2 ^ 32 - 2 * h + n = ap (λ (m : ℕ). m % 2 ^ 32) (negative_word (2 * h - 1 - n)) ∙ (let e : (words - 1 - (2 * h - 1 - n) % words) % 2 ^ 32 ≡ 2 ^ 32 - 2 * h + n = omega arith in e) in
      let f : 2 ^ 32 - 1 - (2 ^ 32 - 2 * h + n) ≡ 2 * h - 1 - n = omega arith in
      rw (s, r) (as_signed_high (2 ^ 32) (2 ^ 32 - 2 * h + n) (omega arith) ∙ ap negsuc f)
]

pub signed_back : (kind : IntKind) (x : ℕ) → is_signed kind ≡ true → signed 64 (extended kind x) ≡ value_of kind x
unfolding extended word_of value_of number_of
signed_back I8 x h = word_signed 0x80 (x % 0x100) (omega arith) (omega arith)
signed_back U8 x h = absurd cc
signed_back I16 x h = word_signed 0x8000 (x % 0x1_0000) (omega arith) (omega arith)
signed_back U16 x h = absurd cc
signed_back I32 x h = word_signed 0x8000_0000 (x % 0x1_0000_0000) (omega arith) (omega arith)
signed_back U32 x h = absurd cc
signed_back I64 x h = word_signed 0x8000_0000_0000_0000 (x % words) (omega arith) (omega arith)
signed_back U64 x h = absurd cc

pub signed_back_32 : (kind : IntKind) (x : ℕ) → is_signed kind ≡ true → is_narrow kind ≡ true → signed 32 (low 32 (extended kind x)) ≡ value_of kind x
unfolding extended word_of value_of number_of
signed_back_32 I8 x h k = half_signed 0x80 (x % 0x100) (omega arith) (omega arith)
signed_back_32 U8 x h k = absurd cc
signed_back_32 I16 x h k = half_signed 0x8000 (x % 0x1_0000) (omega arith) (omega arith)
signed_back_32 U16 x h k = absurd cc
signed_back_32 I32 x h k = half_signed 0x8000_0000 (x % 0x1_0000_0000) (omega arith) (omega arith)
signed_back_32 U32 x h k = absurd cc
signed_back_32 I64 x h k = absurd cc
signed_back_32 U64 x h k = absurd cc

-- a number without a sign is its word
pub plain_back : (kind : IntKind) (x : ℕ) → is_signed kind ≡ false → value_of kind x ≡ pos (extended kind x)
unfolding extended word_of value_of number_of residue
plain_back I8 x h = absurd cc
plain_back U8 x h = let e : x % 0x100 ≡ x % 0x100 % words = omega arith in ap pos e
plain_back I16 x h = absurd cc
plain_back U16 x h = let e : x % 0x1_0000 ≡ x % 0x1_0000 % words = omega arith in ap pos e
plain_back I32 x h = absurd cc
plain_back U32 x h = let e : x % 0x1_0000_0000 ≡ x % 0x1_0000_0000 % words = omega arith in ap pos e
plain_back I64 x h = absurd cc
plain_back U64 x h = let e : x % words ≡ x % words % words = omega arith in ap pos e

-- which has at most 32 bits where the type has
pub narrow_small : (kind : IntKind) (x : ℕ) → is_signed kind ≡ false → is_narrow kind ≡ true → extended kind x < 2 ^ 32
unfolding extended word_of value_of number_of residue
narrow_small I8 x h k = absurd cc
narrow_small U8 x h k = omega arith
narrow_small I16 x h k = absurd cc
narrow_small U16 x h k = omega arith
narrow_small I32 x h k = absurd cc
narrow_small U32 x h k = omega arith
narrow_small I64 x h k = absurd cc
narrow_small U64 x h k = absurd cc

pub extended_low : (kind : IntKind) (m : ℕ) → extended kind (low 64 m) ≡ extended kind m
unfolding extended value_of
extended_low kind m = ap (λ (n : ℕ). word_of (number_of kind n)) (mod_twice kind m)

-- ---- operators by residues

pub by_residue : (op : Arithmetic) (kind : IntKind) (x z m : ℕ) (n : ℤ) → whole op kind (value_of kind x) (value_of kind z) ≡ Some n → residue (modulus kind) n ≡ m % modulus kind → word_arithmetic op kind x z ≡ Some (extended kind m)
unfolding word_arithmetic arithmetic wrapped extended value_of
by_residue op kind x z m n is same = ap (λ (o : Option ℤ). option_map word_of (option_map (wrapped kind) o)) is ∙ ap (λ (r : ℕ). let o : Option ℕ = Some (word_of (number_of kind r)) in o) same

-- what an instruction of 64 bits makes of two registers
abbrev pub by_words : Operation → ℕ → ℕ → ℕ
by_words op x z = low 64 (result_of op 64 (low 64 x) (low 64 z))

-- and a shift of 32 or 64 bits
abbrev pub by_shift : (w : ℕ) → Operation → ℕ → ℕ → ℕ
by_shift w op x z = low w (result_of op w (low w x) (low 8 z))

-- ---- products

imul_is : (x z : ℕ) → x < words → z < words → by_words Imul x z ≡ (x * z) % words
unfolding result_of
imul_is x z small_x small_z =
    let ex = word_is x small_x in
    let ez = word_is z small_z in
    let back : (n : ℕ) → n < words → residue words (as_signed words n) ≡ n = λ n small. residue-as_signed 0x8000_0000_0000_0000 n small in
    let e : by_words Imul x z ≡ residue words (as_signed words x *ℤ as_signed words z) % words = λ i. residue words (as_signed words (ex i) *ℤ as_signed words (ez i)) % words in
    let p : residue words (as_signed words x *ℤ as_signed words z) ≡ (x * z) % words = product (as_signed words x) (as_signed words z) ∙ (λ i. (back x small_x i * back z small_z i) % words) in
    let f : (x * z) % words % words ≡ (x * z) % words = omega arith in
    e ∙ ap (λ (n : ℕ). n % words) p ∙ f

pub times_is : (kind : IntKind) (x z : ℕ) → word_arithmetic Mul kind x z ≡ Some (extended kind (by_words Imul (extended kind x) (extended kind z)))
unfolding extended word_of
times_is kind x z =
    let a = value_of kind x in
    let b = value_of kind z in
    by_residue Mul kind x z _ (a *ℤ b) refl (sym (residue_twice kind (a *ℤ b)) ∙ ap (λ (r : ℕ). r % modulus kind) (product a b ∙ sym (imul_is (extended kind x) (extended kind z) (word_small kind x) (word_small kind z))))

-- ---- bits

same_bits : (kind : IntKind) (g : ℕ → ℕ → ℕ) (x z : ℕ) → x < words → z < words → g x z % modulus kind ≡ g (x % words) (z % words) % words % modulus kind
same_bits kind g x z small_x small_z = sym (mod_twice kind (g (x % words) (z % words)) ∙ (λ i. g (word_is x small_x i) (word_is z small_z i) % modulus kind))

pub and_is : (kind : IntKind) (x z : ℕ) → word_arithmetic BitAnd kind x z ≡ Some (extended kind (by_words And (extended kind x) (extended kind z)))
unfolding extended word_of result_of residue
and_is kind x z = by_residue BitAnd kind x z _ (pos (bit_and (extended kind x) (extended kind z))) refl (same_bits kind bit_and (extended kind x) (extended kind z) (word_small kind x) (word_small kind z))

pub or_is : (kind : IntKind) (x z : ℕ) → word_arithmetic BitOr kind x z ≡ Some (extended kind (by_words Or (extended kind x) (extended kind z)))
unfolding extended word_of result_of residue
or_is kind x z = by_residue BitOr kind x z _ (pos (bit_or (extended kind x) (extended kind z))) refl (same_bits kind bit_or (extended kind x) (extended kind z) (word_small kind x) (word_small kind z))

pub xor_is : (kind : IntKind) (x z : ℕ) → word_arithmetic BitXor kind x z ≡ Some (extended kind (by_words Xor (extended kind x) (extended kind z)))
unfolding extended word_of result_of residue
xor_is kind x z = by_residue BitXor kind x z _ (pos (bit_xor (extended kind x) (extended kind z))) refl (same_bits kind bit_xor (extended kind x) (extended kind z) (word_small kind x) (word_small kind z))
