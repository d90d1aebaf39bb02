use Rattle.std.proofs.Common.{◌≡◌, ◌-ℤ◌, pos, to_z, of_z, arith}
use Rattle.std.specs.Int.{w128}
use Rattle.std.proofs.lemmas.Int.{ints, to_z-of_z}
use Rattle.x86_alu.proofs.Widths.{in_range_test, below_range_test}
use Rattle.x86_alu.proofs.numbers.fits.Goals as goal

pub returns-then-half-n : goal.returns-then-half-n
returns-then-half-n c =
    let high : to_z w128 c.half-half.result ≡ pos c.half-half.result = omega (arith, ints) in
    let least : to_z w128 (of_z w128 (pos 0 -ℤ to_z w128 c.half-half.result)) ≡ pos 0 -ℤ pos c.half-half.result = omega (arith, ints) in
    in_range_test c.args.w c.half-half.result c.args.n _ _ _ (to_z-of_z w128 c.args.n c.ranges.n) high least c.half-half.ensures.value c.if-half-n.true

pub returns-else-half-n : goal.returns-else-half-n
returns-else-half-n c =
    let least : to_z w128 (of_z w128 (pos 0 -ℤ to_z w128 c.half-half.result)) ≡ pos 0 -ℤ pos c.half-half.result = omega (arith, ints) in
    below_range_test c.args.w c.half-half.result c.args.n _ _ (to_z-of_z w128 c.args.n c.ranges.n) least c.half-half.ensures.value c.if-half-n.false
