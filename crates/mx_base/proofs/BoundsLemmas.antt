-- What it is to leave bounds, and to stay within them.
use Rattle.std.proofs.Common.{◌≡◌, ℕ, ◌≤◌, true, false, cond, nat_lt, ◌||◌, None, Some, is_some, refl, arith}
use Rattle.std.proofs.lemmas.Bool.Decides.{nat_tests}
use Rattle.mx_base.specs.declared.limits.Bounds.{Bounds}
use Rattle.mx_base.specs.Bounds.{last_byte, leaving_value, is_outside}

-- an access leaves bounds exactly where there is a value by which it does
pub is_outside-leaving_value : (p s : ℕ) (b : Bounds) → is_outside p s b ≡ is_some (leaving_value p s b)
unfolding is_outside leaving_value
is_outside-leaving_value p s b = elim (nat_lt p b.lb) as (λ c. (c || nat_lt b.ub (last_byte p s)) ≡ is_some (cond c (Some p) (cond (nat_lt b.ub (last_byte p s)) (Some (last_byte p s)) None))) [
  | true ↦ refl
  | false ↦ elim (nat_lt b.ub (last_byte p s)) as (λ c. c ≡ is_some (cond c (Some (last_byte p s)) None)) [ true ↦ refl | false ↦ refl ]
]

-- an access that doesn't leave them has its first and its last byte within
pub within-bounds : (p s : ℕ) (b : Bounds) → is_outside p s b ≡ false → (b.lb ≤ p) × (last_byte p s ≤ b.ub)
unfolding is_outside
within-bounds p s b inside = (grind (arith, nat_tests), grind (arith, nat_tests))
