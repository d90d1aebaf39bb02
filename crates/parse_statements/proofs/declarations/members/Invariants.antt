use Rattle.std.proofs.Common.{◌≡◌, ◌≤◌, ◌<◌, true, false, length}
use Rattle.c_grammar.specs.Nodes as made
use Rattle.c_grammar.specs.Rules as n
use Rattle.c_grammar.specs.Reading.{parse, steps_of, limit}
use Rattle.parse_expressions.specs.Gives.{through}
use Rattle.parse_statements.specs.Pieces as pieces
use Rattle.parse_statements.proofs.Lists.{members_after}
use Rattle.parse_statements.proofs.declarations.members.Given as goal

abbrev pub invariant-loop-at : goal.invariant-loop-at
invariant-loop-at l = record {
  reads : steps_of pieces.members l.fn.at.depth l.fn.at.left ≡ members_after l.all l.at.depth l.at.left;
  shorter : length l.at.left < length l.fn.at.left;
}

abbrev pub decreases-loop-at : goal.decreases-loop-at
decreases-loop-at l = length l.at.left
