-- Each word is found: all are tried.
use Rattle.std.proofs.Common.{◌≡◌, ℕ, zero, suc, ◌<◌, Bool, true, false, true≢false, cond, List, Option, Some, None, refl, sym, ◌∙◌, ap, subst, ◌⊎◌, inl, inr, arith}
use Rattle.std.specs.Prelude.{nat_eq, if◌then◌else◌, option_map}
use Rattle.std.specs.Str.{bytes_eq}
use Rattle.std.proofs.lemmas.Bool.Decides.{nat_tests}
use Rattle.asm_names.specs.First.{first_from}
use Rattle.asm_names.specs.Mnemonics.{mnemonic_at, mnemonic_text, mnemonic_of, alu_text, one_text, shift_text, set_text, jump_text}
use Rattle.asm_names.specs.Registers.{register_text, register_of, bounds_text, bounds_of, width_at, size_text, size_of, text_8, text_16, text_32, text_64}
use Rattle.asm_names.specs.Found.{WordsAreFound}

-- ---- all numbers below one

all_below : (ℕ → Bool) → ℕ → Bool
all_below p zero = true
all_below p (suc n) = cond (p n) (all_below p n) false

last_or_less : (k n : ℕ) → k < suc n → (b : Bool) → nat_eq k n ≡ b → (k ≡ n) ⊎ (k < n)
last_or_less k n h true e = inl (grind (arith, nat_tests))
last_or_less k n h false e = inr (grind (arith, nat_tests))

from_all : (p : ℕ → Bool) (n : ℕ) → all_below p n ≡ true → (k : ℕ) → k < n → p k ≡ true
unfolding all_below
from_all p zero h k below = absurd (omega arith)
from_all p (suc n) h k below = by (λ more less. from_all p n more k less) (p n) refl h
  where
    by : (all_below p n ≡ true → k < n → p k ≡ true) → (b : Bool) → p n ≡ b → cond b (all_below p n) false ≡ true → p k ≡ true
    by before true e more = elim (last_or_less k n below (nat_eq k n) refl) [ inl is ↦ ap p is ∙ e | inr less ↦ before more less ]
    by before false e more = absurd (true≢false (sym more))

-- ---- a text is the first of its list

is_at : ℕ → Option ℕ → Bool
is_at k (Some j) = nat_eq j k
is_at k None = false

at_is : (k : ℕ) (o : Option ℕ) → is_at k o ≡ true → o ≡ Some k
unfolding is_at
at_is k (Some j) h = let e : j ≡ k = grind (arith, nat_tests) in ap Some e
at_is k None h = absurd (true≢false (sym h))

-- where the k-th text of a list is found first
first_like : (ℕ → List ℕ) → ℕ → ℕ → Option ℕ
first_like text n k = first_from (λ j. bytes_eq (text j) (text k)) n 0

abbrev all_found : (ℕ → List ℕ) → ℕ → Bool
all_found text n = all_below (λ k. is_at k (first_like text n k)) n

found : (text : ℕ → List ℕ) (n : ℕ) → all_found text n ≡ true → (k : ℕ) → k < n → first_from (λ j. bytes_eq (text j) (text k)) n 0 ≡ Some k
unfolding first_like
found text n h k below = at_is k (first_like text n k) (from_all (λ k. is_at k (first_like text n k)) n h k below)

-- ---- the lists

mnemonics_found : all_found (λ k. mnemonic_text (mnemonic_at k)) 65 ≡ true
unfolding all_below is_at first_like first_from mnemonic_text mnemonic_at alu_text one_text shift_text set_text jump_text
mnemonics_found = refl

abbrev chosen : Bool → Bool → Bool → ℕ → List ℕ
chosen a b c r = if a then text_8 r else if b then text_16 r else if c then text_32 r else text_64 r

registers_found : (a b c : Bool) → all_found (chosen a b c) 16 ≡ true
unfolding all_below is_at first_like first_from text_8 text_16 text_32 text_64
registers_found true b c = refl
registers_found false true c = refl
registers_found false false true = refl
registers_found false false false = refl

bounds_found : all_found bounds_text 4 ≡ true
unfolding all_below is_at first_like first_from bounds_text
bounds_found = refl

sizes_found : all_found (λ k. size_text (width_at k)) 4 ≡ true
unfolding all_below is_at first_like first_from size_text
sizes_found = refl

pub words_found : WordsAreFound
unfolding mnemonic_of register_of register_text bounds_of size_of
words_found = record {
  mnemonics = λ k below. ap (option_map mnemonic_at) (found (λ k. mnemonic_text (mnemonic_at k)) 65 mnemonics_found k below);
  registers = λ w r below. found (chosen (nat_eq w 8) (nat_eq w 16) (nat_eq w 32)) 16 (registers_found (nat_eq w 8) (nat_eq w 16) (nat_eq w 32)) r below;
  bounds = λ b below. found bounds_text 4 bounds_found b below;
  sizes = λ k below. ap (option_map width_at) (found (λ k. size_text (width_at k)) 4 sizes_found k below);
}
