-- The values of a function that runs: each has a number, and is a number or a pair of bounds.
use Rattle.std.specs.Prelude.{ℕ, ◌==◌, nat_lt, if◌then◌else◌}
use Rattle.mx_base.specs.declared.limits.Bounds.{Bounds}

-- what a value is: nothing as long as no step has written it
pub data Held : Type 0 where
  Nothing : Held
  Number : (n : ℕ) → Held
  Pair : (b : Bounds) → Held

-- what each value is
abbrev pub Values : Type 0
Values = ℕ → Held

abbrev pub with_held : ℕ → Held → Values → Values
with_held v h values = λ x. if x == v then h else values x

-- the values of the private variables alone, which have the first numbers
abbrev pub private_alone : ℕ → Values → Values
private_alone private values = λ x. if nat_lt x private then values x else Nothing

-- what passes between functions: a number, and for a pointer its bounds; full bounds for a number
pub record Value : Type 0 where
  pub number : ℕ
  pub bounds : Bounds
