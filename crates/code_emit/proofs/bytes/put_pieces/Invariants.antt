use Rattle.std.proofs.Common.{◌≡◌, ◌++◌, drop, length}
use Rattle.code_emit.specs.Unlinked.{unlinked_pieces}
use Rattle.code_emit.proofs.bytes.put_pieces.Given as goal

abbrev pub invariant-all : goal.invariant-all
invariant-all l = l.code.items ++ unlinked_pieces l.fn.labels (length l.code.items) (drop l.piece-index l.pieces) ≡ l.fn.code.items ++ unlinked_pieces l.fn.labels (length l.fn.code.items) l.pieces
