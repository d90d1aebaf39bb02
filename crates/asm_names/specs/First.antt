-- The first number that passes a test.
use Rattle.std.specs.Prelude.{ℕ, zero, suc, ◌+◌, Bool, if◌then◌else◌, Option, Some, None}

-- the first of n numbers from k on that passes
unfoldable pub first_from : (ℕ → Bool) → ℕ → ℕ → Option ℕ
first_from passes zero k = None
first_from passes (suc n) k = if passes k then Some k else first_from passes n (k + 1)
