use Rattle.std.proofs.Common.{arith}
use Rattle.fault_text.proofs.Hex.{digits_begun}
use Rattle.fault_text.proofs.line.encode_hex.Goals as goal

pub loop-i-init : goal.loop-i-init
loop-i-init c = record { within = omega arith; long = omega arith; left = digits_begun c.args.n c.args.out.now (omega arith) }
