-- Conditions after a comparison.
use Rattle.std.proofs.Common.{ℕ, ◌^◌, ◌<◌, arith}
use Rattle.std.proofs.lemmas.Bool.Decides.{nat_tests}
use Rattle.std.proofs.lemmas.Int.{ints}
use Rattle.mx_base.specs.Numbers.{as_signed}
use Rattle.x86_forms.specs.Arithmetic.{Flags, Cmp, flags_after, difference_flags, holds, holds_signed, is_negative}
use Rattle.x86_forms.specs.ConditionLaws.{ConditionsCompare}

pub compare_32 : (a b : ℕ) (before : Flags) → a < 2 ^ 32 → b < 2 ^ 32 → ConditionsCompare 32 a b (flags_after Cmp 32 a b before)
unfolding holds flags_after difference_flags is_negative as_signed holds_signed
compare_32 a b before p q = record {
  equal = (λ h. grind (arith, ints, nat_tests), λ h. grind (arith, ints, nat_tests));
  unequal = (λ h. grind (arith, ints, nat_tests), λ h. grind (arith, ints, nat_tests));
  below = (λ h. grind (arith, ints, nat_tests), λ h. grind (arith, ints, nat_tests));
  at_least = (λ h. grind (arith, ints, nat_tests), λ h. grind (arith, ints, nat_tests));
  at_most = (λ h. grind (arith, ints, nat_tests), λ h. grind (arith, ints, nat_tests));
  above = (λ h. grind (arith, ints, nat_tests), λ h. grind (arith, ints, nat_tests));
  less = (λ h. grind (arith, ints, nat_tests), λ h. grind (arith, ints, nat_tests));
  not_less = (λ h. grind (arith, ints, nat_tests), λ h. grind (arith, ints, nat_tests));
  not_greater = (λ h. grind (arith, ints, nat_tests), λ h. grind (arith, ints, nat_tests));
  greater = (λ h. grind (arith, ints, nat_tests), λ h. grind (arith, ints, nat_tests));
  negative = (λ h. grind (arith, ints, nat_tests), λ h. grind (arith, ints, nat_tests));
  not_negative = (λ h. grind (arith, ints, nat_tests), λ h. grind (arith, ints, nat_tests));
  overflowing = (λ h. grind (arith, ints, nat_tests), λ h. grind (arith, ints, nat_tests));
  not_overflowing = (λ h. grind (arith, ints, nat_tests), λ h. grind (arith, ints, nat_tests));
}

pub compare_64 : (a b : ℕ) (before : Flags) → a < 2 ^ 64 → b < 2 ^ 64 → ConditionsCompare 64 a b (flags_after Cmp 64 a b before)
unfolding holds flags_after difference_flags is_negative as_signed holds_signed
compare_64 a b before p q = record {
  equal = (λ h. grind (arith, ints, nat_tests), λ h. grind (arith, ints, nat_tests));
  unequal = (λ h. grind (arith, ints, nat_tests), λ h. grind (arith, ints, nat_tests));
  below = (λ h. grind (arith, ints, nat_tests), λ h. grind (arith, ints, nat_tests));
  at_least = (λ h. grind (arith, ints, nat_tests), λ h. grind (arith, ints, nat_tests));
  at_most = (λ h. grind (arith, ints, nat_tests), λ h. grind (arith, ints, nat_tests));
  above = (λ h. grind (arith, ints, nat_tests), λ h. grind (arith, ints, nat_tests));
  less = (λ h. grind (arith, ints, nat_tests), λ h. grind (arith, ints, nat_tests));
  not_less = (λ h. grind (arith, ints, nat_tests), λ h. grind (arith, ints, nat_tests));
  not_greater = (λ h. grind (arith, ints, nat_tests), λ h. grind (arith, ints, nat_tests));
  greater = (λ h. grind (arith, ints, nat_tests), λ h. grind (arith, ints, nat_tests));
  negative = (λ h. grind (arith, ints, nat_tests), λ h. grind (arith, ints, nat_tests));
  not_negative = (λ h. grind (arith, ints, nat_tests), λ h. grind (arith, ints, nat_tests));
  overflowing = (λ h. grind (arith, ints, nat_tests), λ h. grind (arith, ints, nat_tests));
  not_overflowing = (λ h. grind (arith, ints, nat_tests), λ h. grind (arith, ints, nat_tests));
}
