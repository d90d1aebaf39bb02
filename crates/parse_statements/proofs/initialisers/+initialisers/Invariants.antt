use Rattle.std.proofs.Common.{◌≡◌, ◌≤◌, ◌<◌, length, ℕ, ◌+◌, ◌*◌}
use Rattle.c_grammar.specs.Reading.{steps_of}
use Rattle.parse_statements.specs.Pieces as pieces
use Rattle.parse_statements.proofs.Lists.{inits_after}
use Rattle.parse_statements.proofs.initialisers.+initialisers.Given as goal

abbrev pub decreases-initialiser : goal.decreases-initialiser
decreases-initialiser l = 2 * length l.at.now.left

abbrev pub decreases-initialisers : goal.decreases-initialisers
decreases-initialisers l = 2 * length l.at.now.left + 1

abbrev pub invariant-initialisers-loop-at : goal.invariant-initialisers-loop-at
invariant-initialisers-loop-at l = record {
  reads : steps_of pieces.initialisers l.fn.at.depth l.fn.at.left ≡ inits_after l.all l.at.depth l.at.left;
  shorter : length l.at.left < length l.fn.at.left;
}

abbrev pub decreases-initialisers-loop-at : goal.decreases-initialisers-loop-at
decreases-initialisers-loop-at l = length l.at.left
