-- Words as numbers with a sign.
use Rattle.std.proofs.Common.{◌≡◌, ℕ, ◌^◌, ◌<◌, arith}
use Rattle.std.specs.Int.{w64, cast_signed}
use Rattle.std.proofs.lemmas.Bool.Decides.{nat_tests}
use Rattle.mx_base.specs.Numbers.{as_signed}

pub word_signed : (n : ℕ) → n < 2 ^ 64 → cast_signed w64 n ≡ as_signed (2 ^ 64) n
unfolding as_signed
word_signed n h = grind (arith, nat_tests)
