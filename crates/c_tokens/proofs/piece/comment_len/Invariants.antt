use Rattle.std.proofs.Common.{◌≡◌, ◌+◌, length, option_map}
use Rattle.c_tokens.specs.Pieces.{comment_len}
use Rattle.c_tokens.proofs.piece.comment_len.Given as goal

abbrev pub invariant-loop-rest : goal.invariant-loop-rest
invariant-loop-rest l = record {
  same : comment_len l.z ≡ option_map (λ k. k + l.n) (comment_len l.rest);
  room : l.n + length l.rest ≡ length l.z;
}

abbrev pub decreases-loop-rest : goal.decreases-loop-rest
decreases-loop-rest l = length l.rest
