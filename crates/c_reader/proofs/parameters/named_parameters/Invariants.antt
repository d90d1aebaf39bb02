use Rattle.std.proofs.Common.{◌≡◌, ◌<◌, length}
use Rattle.c_grammar.specs.Reading.{steps_of}
use Rattle.c_reader.specs.Pieces as pieces
use Rattle.c_reader.proofs.Sources.{params_after}
use Rattle.c_reader.proofs.parameters.named_parameters.Given as goal

abbrev pub invariant-loop-at : goal.invariant-loop-at
invariant-loop-at l = record {
  reads : steps_of (pieces.named_parameters l.fn.typed) l.fn.at.depth l.fn.at.left ≡ params_after l.all l.at.depth l.at.left;
  shorter : length l.at.left < length l.fn.at.left;
}

abbrev pub decreases-loop-at : goal.decreases-loop-at
decreases-loop-at l = length l.at.left
