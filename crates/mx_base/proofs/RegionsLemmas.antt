-- What the table of regions gives.
use Rattle.std.proofs.Common.{◌≡◌, ℕ, ◌<◌, ◌≤◌, nat_le, nat_lt, Bool, true, false, not, ◌&&◌, ◌||◌, refl, arith, ap}
use Rattle.std.proofs.lemmas.Bool.Decides.{nat_tests}
use Rattle.mx_base.specs.Regions.{is_readable, is_writable, is_executable, is_sealed, is_open_to_read, is_open_to_write}

pub code_not_writable : (a : ℕ) → is_executable a ≡ true → is_writable a ≡ false
unfolding is_executable is_writable
code_not_writable a code = grind (arith, nat_tests)

pub sealed_not_readable : (a : ℕ) → is_sealed a ≡ true → is_open_to_read a ≡ false
unfolding is_sealed is_open_to_read
sealed_not_readable a sealed = grind (arith, nat_tests)

pub sealed_not_writable : (a : ℕ) → is_sealed a ≡ true → is_open_to_write a ≡ false
unfolding is_sealed is_open_to_write
sealed_not_writable a sealed = grind (arith, nat_tests)

pub open_readable : (a : ℕ) → is_open_to_read a ≡ (is_readable a && not (is_sealed a))
unfolding is_open_to_read is_readable is_sealed
open_readable a = grind (arith, nat_tests)

pub open_writable : (a : ℕ) → is_open_to_write a ≡ (is_writable a && not (is_sealed a))
unfolding is_open_to_write is_writable is_sealed
open_writable a = grind (arith, nat_tests)
