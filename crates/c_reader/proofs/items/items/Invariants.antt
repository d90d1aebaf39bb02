use Rattle.std.proofs.Common.{◌≡◌, length}
use Rattle.c_grammar.specs.Rules as n
use Rattle.c_grammar.specs.Reading.{parse, limit}
use Rattle.c_reader.proofs.Sources.{items_after}
use Rattle.c_reader.proofs.items.items.Given as goal

abbrev pub invariant-loop-at : goal.invariant-loop-at
invariant-loop-at l = record { reads : parse limit n.Source l.fn.at.depth l.fn.at.left ≡ items_after l.all l.at.depth l.at.left }

abbrev pub decreases-loop-at : goal.decreases-loop-at
decreases-loop-at l = length l.at.left
