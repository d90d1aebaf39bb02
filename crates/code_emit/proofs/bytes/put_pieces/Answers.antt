use Rattle.std.proofs.Common.{arith}
use Rattle.code_emit.proofs.Loops.{next_piece}
use Rattle.code_emit.proofs.bytes.put_pieces.Goals as goal

pub all-preserved : goal.all-preserved
all-preserved c = next_piece c.args.labels.now c.all.code.items c.put_piece.new.code.items c.args.code.now.items c.args.pieces.now c.all.piece-index _ (omega arith) c.all.invariant c.in_ok-put_piece.ensures
