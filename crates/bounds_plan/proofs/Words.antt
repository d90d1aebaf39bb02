-- Arithmetic on addresses by C's operators on 64-bit words.
use Rattle.std.proofs.Common.{ℕ, zero, suc, ◌+◌, ◌-◌, ◌*◌, ◌%◌, ◌≡◌, ◌≤◌, ◌<◌, refl, sym, ap, ◌∙◌, Some, Bool, true, false, cond, nat_lt, pos, negsuc, arith}
use Rattle.std.specs.Prelude.{◌-ℤ◌}
use Rattle.std.proofs.lemmas.Bool.Decides.{nat_tests}
use Rattle.std.proofs.lemmas.Nat.{mul-mod}
use Rattle.mx_base.specs.declared.numbers.IntKind.TheVariants.{U64}
use Rattle.mx_base.specs.Numbers.{residue, number_of, value_of, wrapped, word_of, extended}
use Rattle.mx_base.specs.declared.operators.Arithmetic.TheVariants.{Mul, Add, Sub}
use Rattle.mx_base.specs.Operators.{arithmetic, word_arithmetic}
use Rattle.mx_base.specs.Bounds.{addresses, moved}
use Rattle.bounds_plan.specs.meaning.Expressions.{stepped}

pub plus-word : (a b : ℕ) → word_arithmetic Add U64 a b ≡ Some (moved a b)
unfolding word_arithmetic arithmetic value_of number_of wrapped word_of residue moved
plus-word a b = ap (λ n. Some n) (omega arith)

pub word-word : (a : ℕ) → extended U64 a ≡ moved a 0
unfolding extended value_of number_of word_of residue moved
word-word a = omega arith

pub times-word : (a b : ℕ) → word_arithmetic Mul U64 a b ≡ Some (a * b % addresses)
unfolding word_arithmetic arithmetic value_of number_of wrapped word_of residue
times-word a b = ap (λ n. Some (n % addresses)) (sym (mul-mod a b addresses)) ∙ ap (λ n. Some n) (omega arith)

less : (a b : ℕ) → residue addresses (pos a -ℤ pos b) ≡ (a + (addresses - b % addresses)) % addresses
unfolding residue
less a zero = omega arith
less a (suc b) = by_cases (nat_lt a (suc b)) refl
  where
    by_cases : (c : Bool) → nat_lt a (suc b) ≡ c → residue addresses (cond c (negsuc (suc b - suc a)) (pos (a - suc b))) ≡ (a + (addresses - suc b % addresses)) % addresses
    by_cases true e = let low : a < suc b = grind (arith, nat_tests, e) in omega (arith, low)
    by_cases false e = let high : suc b ≤ a = grind (arith, nat_tests, e) in omega (arith, high)

-- the product is generic in these two, so that it stays linear
minus-word : (a p : ℕ) → word_arithmetic Sub U64 a (p % addresses) ≡ Some ((a + (addresses - p % addresses)) % addresses)
unfolding word_arithmetic arithmetic value_of number_of wrapped word_of residue
minus-word a p = ap (λ n. Some (n % addresses)) (less (a % addresses) (p % addresses % addresses)) ∙ ap (λ n. Some n) (omega arith)

added-word : (a p : ℕ) → word_arithmetic Add U64 a (p % addresses) ≡ Some ((a + p) % addresses)
unfolding word_arithmetic arithmetic value_of number_of wrapped word_of residue
added-word a p = ap (λ n. Some n) (omega arith)

pub less-word : (size a i : ℕ) → word_arithmetic Sub U64 a (i * size % addresses) ≡ Some (stepped true size a i)
unfolding stepped
less-word size a i = minus-word a (i * size)

pub more-word : (size a i : ℕ) → word_arithmetic Add U64 a (i * size % addresses) ≡ Some (stepped false size a i)
unfolding stepped
more-word size a i = added-word a (i * size)
