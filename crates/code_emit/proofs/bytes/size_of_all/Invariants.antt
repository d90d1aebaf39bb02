use Rattle.std.proofs.Common.{◌≡◌, ◌+◌, drop}
use Rattle.step_code.specs.Bytes.{size_of_pieces}
use Rattle.code_emit.proofs.bytes.size_of_all.Given as goal

abbrev pub invariant-all : goal.invariant-all
invariant-all l = l.size + size_of_pieces (drop l.piece-index l.pieces) ≡ size_of_pieces l.pieces
