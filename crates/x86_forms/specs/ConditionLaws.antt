-- What the conditions say after a comparison (Intel SDM, volume 1, condition codes; volume 2, CMP and Jcc).
use Rattle.std.specs.Prelude.{◌≡◌, ℕ, ◌<◌, ◌≤◌, ◌≢◌, ◌↔◌, true, pos, ◌-ℤ◌, ◌<ℤ◌, ◌≤ℤ◌}
use Rattle.x86_forms.specs.Arithmetic.{Flags, holds, signed, difference}

-- the conditions of these flags compare a and b, as unsigned numbers of w bits and as signed ones: e, ne, b, ae, be, a, and l,
-- ge, le, g. The conditions s and ns tell the sign of the difference in w bits, and o and no whether it is the true one
pub record ConditionsCompare (w a b : ℕ) (f : Flags) : Type 0 where
  pub equal : (holds 4 f ≡ true) ↔ (a ≡ b)
  pub unequal : (holds 5 f ≡ true) ↔ (a ≢ b)
  pub below : (holds 2 f ≡ true) ↔ (a < b)
  pub at_least : (holds 3 f ≡ true) ↔ (b ≤ a)
  pub at_most : (holds 6 f ≡ true) ↔ (a ≤ b)
  pub above : (holds 7 f ≡ true) ↔ (b < a)
  pub less : (holds 12 f ≡ true) ↔ (signed w a <ℤ signed w b)
  pub not_less : (holds 13 f ≡ true) ↔ (signed w b ≤ℤ signed w a)
  pub not_greater : (holds 14 f ≡ true) ↔ (signed w a ≤ℤ signed w b)
  pub greater : (holds 15 f ≡ true) ↔ (signed w b <ℤ signed w a)
  pub negative : (holds 8 f ≡ true) ↔ (signed w (difference w a b) <ℤ pos 0)
  pub not_negative : (holds 9 f ≡ true) ↔ (pos 0 ≤ℤ signed w (difference w a b))
  pub overflowing : (holds 0 f ≡ true) ↔ (signed w (difference w a b) ≢ signed w a -ℤ signed w b)
  pub not_overflowing : (holds 1 f ≡ true) ↔ (signed w (difference w a b) ≡ signed w a -ℤ signed w b)
