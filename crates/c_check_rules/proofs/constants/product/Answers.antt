use Rattle.std.proofs.Common.{arith}
use mir.Syntax.{w128}
use Rattle.std.proofs.lemmas.Int.{to_z-of_z, fits_signed_mul}
use Rattle.c_check_rules.proofs.constants.product.Goals as goal

pub returns : goal.returns
returns c =
    let x_fits = c.ranges.x in
    let y_fits = c.ranges.y in
    let product_fits = fits_signed_mul w128 c.args.x c.args.y 0xffff_ffff_ffff_ffff 0x8000_0000_0000_0000 c.requires.left c.requires.right (omega arith) in
    simp to_z-of_z
