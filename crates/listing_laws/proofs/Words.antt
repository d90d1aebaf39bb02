-- The words of instructions, each tried: which they are, and that they are words.
use Rattle.std.proofs.Common.{◌≡◌, ℕ, zero, suc, ◌+◌, ◌-◌, ◌≤◌, ◌<◌, Bool, true, false, true≢false, cond, List, [], ◌∷◌, Option, Some, None, refl, sym, ap, subst, ◌∙◌, ◌⊎◌, inl, inr, arith, nat_eq}
use Rattle.std.specs.Prelude.{◌&&◌, nat_le, slice_index, codes, is_none}
use Rattle.std.specs.List.{list_all}
use Rattle.std.specs.Char.{is_ascii_alphabetic, is_ascii_digit}
use Rattle.std.specs.Str.{bytes_eq}
use Rattle.std.proofs.lemmas.Bool.{and_parts}
use Rattle.std.proofs.lemmas.Bool.Decides.{nat_tests}
use Rattle.obj_file.specs.Names.{is_c_name}
use Rattle.asm_names.specs.First.{first_from}
use Rattle.asm_names.specs.Registers.{text_8, text_16, text_32, text_64, register_text, register_of, bounds_text, bounds_of, size_text, size_of}
use Rattle.asm_names.specs.Mnemonics.{mnemonic_text, mnemonic_of}
use Rattle.asm_names.specs.declared.mnemonic.Mnemonic.{Mnemonic}
use Rattle.asm_text.specs.Lexical.{is_word_byte, is_name}
use Rattle.asm_text.specs.declared.parts.Operand.{Operand}
use Rattle.asm_text.specs.declared.parts.Operand.TheVariants as o
use Rattle.asm_text.specs.Operands.{reg, register}

-- ---- all numbers below one

abbrev pub all_below : (ℕ → Bool) → ℕ → Bool
all_below p zero = true
all_below p (suc n) = cond (p n) (all_below p n) false

last_or_less : (k n : ℕ) → k < suc n → (b : Bool) → nat_eq k n ≡ b → (k ≡ n) ⊎ (k < n)
last_or_less k n h true e = inl (grind (arith, nat_tests))
last_or_less k n h false e = inr (grind (arith, nat_tests))

pub from_all : (p : ℕ → Bool) (n : ℕ) → all_below p n ≡ true → (k : ℕ) → k < n → p k ≡ true
from_all p zero h k below = absurd (omega arith)
from_all p (suc n) h k below = by (λ more less. from_all p n more k less) (p n) refl h
  where
    by : (all_below p n ≡ true → k < n → p k ≡ true) → (b : Bool) → p n ≡ b → cond b (all_below p n) false ≡ true → p k ≡ true
    by before true e more = elim (last_or_less k n below (nat_eq k n) refl) [ inl is ↦ ap p is ∙ e | inr less ↦ before more less ]
    by before false e more = absurd (true≢false (sym more))

-- ---- words

-- a letter, and then letters and digits
pub record IsWord (t : List ℕ) : Type 0 where
  pub bytes : list_all is_word_byte t ≡ true
  pub letter : is_ascii_alphabetic (slice_index t 0) ≡ true

abbrev word_test : List ℕ → Bool
word_test t = list_all is_word_byte t && is_ascii_alphabetic (slice_index t 0)

is_word : (t : List ℕ) → word_test t ≡ true → IsWord t
is_word t h = let p = and_parts (list_all is_word_byte t) (is_ascii_alphabetic (slice_index t 0)) h in record { bytes = p.0; letter = p.1 }

-- ---- registers

-- the operand that a register's name is
pub record IsRegister (t : List ℕ) (x : Operand) : Type 0 where
  pub word : IsWord t
  pub found : register t ≡ Some x
  pub no_size : size_of t ≡ None

is_that : ℕ → ℕ → Option Operand → Bool
is_that w r (Some (o.Register v q)) = nat_eq v w && nat_eq q.0 r
is_that w r x = false

that_is : (w r : ℕ) (x : Option Operand) → is_that w r x ≡ true → x ≡ Some (o.Register w (reg r))
unfolding is_that
that_is w r (Some (o.Register v q)) h =
    let p = and_parts (nat_eq v w) (nat_eq q.0 r) h in
    let e : v ≡ w = grind (arith, nat_tests, p.0) in
    let f : q.0 ≡ r = grind (arith, nat_tests, p.1) in
    λ i. Some (o.Register (e i) (reg (f i)))
that_is w r x h = absurd (true≢false (sym h))

is_bound : ℕ → Option Operand → Bool
is_bound b (Some (o.Bounds c)) = nat_eq c b
is_bound b x = false

bound_is : (b : ℕ) (x : Option Operand) → is_bound b x ≡ true → x ≡ Some (o.Bounds b)
unfolding is_bound
bound_is b (Some (o.Bounds c)) h = let e : c ≡ b = grind (arith, nat_tests) in λ i. Some (o.Bounds (e i))
bound_is b x h = absurd (true≢false (sym h))

none_is : {A : Type 0} (x : Option A) → is_none x ≡ true → x ≡ None
none_is (Some x) h = absurd (true≢false (sym h))
none_is None h = refl

abbrev register_test : (Option Operand → Bool) → List ℕ → Bool
register_test is t = word_test t && is (register t) && is_none (size_of t)

is_register : (is : Option Operand → Bool) (x : Operand) → ((y : Option Operand) → is y ≡ true → y ≡ Some x) → (t : List ℕ) → register_test is t ≡ true → IsRegister t x
is_register is x made t h =
    let p = and_parts (word_test t && is (register t)) (is_none (size_of t)) h in
    let q = and_parts (word_test t) (is (register t)) p.0 in
    record { word = is_word t q.0; found = made (register t) q.1; no_size = none_is (size_of t) p.1 }

registers_8 : all_below (λ r. register_test (is_that 8 r) (text_8 r)) 16 ≡ true
unfolding is_that register register_of bounds_of size_of register_text first_from text_8 text_16 text_32 text_64 bounds_text size_text
registers_8 = refl

registers_16 : all_below (λ r. register_test (is_that 16 r) (text_16 r)) 16 ≡ true
unfolding is_that register register_of bounds_of size_of register_text first_from text_8 text_16 text_32 text_64 bounds_text size_text
registers_16 = refl

registers_32 : all_below (λ r. register_test (is_that 32 r) (text_32 r)) 16 ≡ true
unfolding is_that register register_of bounds_of size_of register_text first_from text_8 text_16 text_32 text_64 bounds_text size_text
registers_32 = refl

registers_64 : all_below (λ r. register_test (is_that 64 r) (text_64 r)) 16 ≡ true
unfolding is_that register register_of bounds_of size_of register_text first_from text_8 text_16 text_32 text_64 bounds_text size_text
registers_64 = refl

pub register_8 : (r : ℕ) → r < 16 → IsRegister (register_text 8 r) (o.Register 8 (reg r))
unfolding register_text
register_8 r h = is_register (is_that 8 r) (o.Register 8 (reg r)) (that_is 8 r) (text_8 r) (from_all (λ r. register_test (is_that 8 r) (text_8 r)) 16 registers_8 r h)

pub register_16 : (r : ℕ) → r < 16 → IsRegister (register_text 16 r) (o.Register 16 (reg r))
unfolding register_text
register_16 r h = is_register (is_that 16 r) (o.Register 16 (reg r)) (that_is 16 r) (text_16 r) (from_all (λ r. register_test (is_that 16 r) (text_16 r)) 16 registers_16 r h)

pub register_32 : (r : ℕ) → r < 16 → IsRegister (register_text 32 r) (o.Register 32 (reg r))
unfolding register_text
register_32 r h = is_register (is_that 32 r) (o.Register 32 (reg r)) (that_is 32 r) (text_32 r) (from_all (λ r. register_test (is_that 32 r) (text_32 r)) 16 registers_32 r h)

pub register_64 : (r : ℕ) → r < 16 → IsRegister (register_text 64 r) (o.Register 64 (reg r))
unfolding register_text
register_64 r h = is_register (is_that 64 r) (o.Register 64 (reg r)) (that_is 64 r) (text_64 r) (from_all (λ r. register_test (is_that 64 r) (text_64 r)) 16 registers_64 r h)

bounds_found : all_below (λ b. register_test (is_bound b) (bounds_text b)) 4 ≡ true
unfolding is_bound register register_of bounds_of size_of register_text first_from text_8 text_16 text_32 text_64 bounds_text size_text
bounds_found = refl

pub bounds_register : (b : ℕ) → b < 4 → IsRegister (bounds_text b) (o.Bounds b)
bounds_register b h = is_register (is_bound b) (o.Bounds b) (bound_is b) (bounds_text b) (from_all (λ b. register_test (is_bound b) (bounds_text b)) 4 bounds_found b h)

-- ---- whole registers, as the parts of an address

is_number : ℕ → Option ℕ → Bool
is_number r (Some q) = nat_eq q r
is_number r None = false

number_is : (r : ℕ) (x : Option ℕ) → is_number r x ≡ true → x ≡ Some r
unfolding is_number
number_is r (Some q) h = let e : q ≡ r = grind (arith, nat_tests) in ap Some e
number_is r None h = absurd (true≢false (sym h))

wholes : all_below (λ r. is_number r (register_of 64 (text_64 r))) 16 ≡ true
unfolding is_number register_of register_text first_from text_64
wholes = refl

pub whole_found : (r : ℕ) → r < 16 → register_of 64 (register_text 64 r) ≡ Some r
unfolding register_text
whole_found r h = number_is r (register_of 64 (text_64 r)) (from_all (λ r. is_number r (register_of 64 (text_64 r))) 16 wholes r h)

-- ---- sizes

pub record IsSize (w : ℕ) (t : List ℕ) : Type 0 where
  pub word : IsWord t
  pub found : size_of t ≡ Some w

pub size_8 : IsSize 8 (size_text 8)
unfolding size_text size_of first_from
size_8 = record { word = record { bytes = refl; letter = refl }; found = refl }

pub size_16 : IsSize 16 (size_text 16)
unfolding size_text size_of first_from
size_16 = record { word = record { bytes = refl; letter = refl }; found = refl }

pub size_32 : IsSize 32 (size_text 32)
unfolding size_text size_of first_from
size_32 = record { word = record { bytes = refl; letter = refl }; found = refl }

pub size_64 : IsSize 64 (size_text 64)
unfolding size_text size_of first_from
size_64 = record { word = record { bytes = refl; letter = refl }; found = refl }

-- ---- words that are no registers, sizes or names

pub record IsNoWord (t : List ℕ) : Type 0 where
  pub register : register_of 64 t ≡ None
  pub size : size_of t ≡ None
  pub rip : bytes_eq t (codes "rip") ≡ false
  pub name : is_name t ≡ false

pub nothing_no_word : IsNoWord []
unfolding register_of size_of first_from register_text text_64 size_text is_name is_c_name
nothing_no_word = record { register = refl; size = refl; rip = refl; name = refl }

digit_no_word : (k : ℕ) (ds : List ℕ) → k < 10 → IsNoWord ((48 + k) ∷ ds)
unfolding register_of size_of first_from register_text text_64 size_text is_name is_c_name
digit_no_word zero ds h = record { register = refl; size = refl; rip = refl; name = refl }
digit_no_word (suc zero) ds h = record { register = refl; size = refl; rip = refl; name = refl }
digit_no_word (suc (suc zero)) ds h = record { register = refl; size = refl; rip = refl; name = refl }
digit_no_word (suc (suc (suc zero))) ds h = record { register = refl; size = refl; rip = refl; name = refl }
digit_no_word (suc (suc (suc (suc zero)))) ds h = record { register = refl; size = refl; rip = refl; name = refl }
digit_no_word (suc (suc (suc (suc (suc zero))))) ds h = record { register = refl; size = refl; rip = refl; name = refl }
digit_no_word (suc (suc (suc (suc (suc (suc zero)))))) ds h = record { register = refl; size = refl; rip = refl; name = refl }
digit_no_word (suc (suc (suc (suc (suc (suc (suc zero))))))) ds h = record { register = refl; size = refl; rip = refl; name = refl }
digit_no_word (suc (suc (suc (suc (suc (suc (suc (suc zero)))))))) ds h = record { register = refl; size = refl; rip = refl; name = refl }
digit_no_word (suc (suc (suc (suc (suc (suc (suc (suc (suc zero))))))))) ds h = record { register = refl; size = refl; rip = refl; name = refl }
digit_no_word (suc (suc (suc (suc (suc (suc (suc (suc (suc (suc k)))))))))) ds h = absurd (omega arith)

pub digits_no_word : (d : ℕ) (ds : List ℕ) → is_ascii_digit d ≡ true → IsNoWord (d ∷ ds)
digits_no_word d ds h =
    let p = and_parts (nat_le 48 d) (nat_le d 57) h in
    let low : 48 ≤ d = grind (arith, nat_tests, p.0) in
    let high : d ≤ 57 = grind (arith, nat_tests, p.1) in
    let e : 48 + (d - 48) ≡ d = omega arith in
    subst (λ (n : ℕ). IsNoWord (n ∷ ds)) e (digit_no_word (d - 48) ds (omega arith))

-- ---- mnemonics

pub record IsMnemonic (x : Mnemonic) : Type 0 where
  pub word : IsWord (mnemonic_text x)
  pub found : mnemonic_of (mnemonic_text x) ≡ Some x
  pub no_prefix : bytes_eq (mnemonic_text x) (codes "bnd") ≡ false
