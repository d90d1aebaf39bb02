use Rattle.std.proofs.Common.{arith}
use Rattle.parse_expressions.proofs.Steps.{parts_begin}
use Rattle.parse_expressions.proofs.parser.Parser.+expressions.Goals as goal

pub parts-loop-self-init : goal.parts-loop-self-init
parts-loop-self-init t c = record { reads = parts_begin c.args.base c.args.self.now.depth c.args.self.now.left; shorter = omega arith }
