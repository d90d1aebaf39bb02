use Rattle.std.proofs.Common.{arith}
use Rattle.mpx_words.proofs.Hex.{digits_begun}
use Rattle.mpx_words.proofs.line.encode_hex.Goals as goal

pub loop-i-init : goal.loop-i-init
loop-i-init c = record { within = omega arith; long = omega arith; left = digits_begun c.args.n c.args.out.now (omega arith) }
