-- The digits of a number in base 16, before any is written.
use Rattle.std.proofs.Common.{◌≡◌, ℕ, false, List, length, drop, ap, arith}
use Rattle.std.proofs.Math.ListN.{drop_of_length-le}
use Rattle.std.specs.Fmt.{digits, digits_onto}

begun_in : (base n : ℕ) (out : List ℕ) → length out ≡ 64 → digits_onto 64 base false n (drop 64 out) ≡ digits base false n
unfolding digits
begun_in base n out e = ap (digits_onto 64 base false n) (drop_of_length-le out {i = 64} (omega (arith, e)))

pub digits_begun : (n : ℕ) (out : List ℕ) → length out ≡ 64 → digits_onto 64 16 false n (drop 64 out) ≡ digits 16 false n
digits_begun n out e = begun_in 16 n out e
