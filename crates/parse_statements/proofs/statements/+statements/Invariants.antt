use Rattle.std.proofs.Common.{◌≡◌, ◌≤◌, ◌<◌, length, ℕ, ◌+◌, ◌*◌}
use Rattle.c_grammar.specs.Rules as n
use Rattle.c_grammar.specs.Reading.{parse, limit}
use Rattle.parse_statements.proofs.Blocks.{stmts_after}
use Rattle.parse_statements.proofs.statements.+statements.Given as goal

abbrev pub decreases-statement : goal.decreases-statement
decreases-statement l = 8 * length l.at.now.left + 1

abbrev pub decreases-block : goal.decreases-block
decreases-block l = 8 * length l.at.now.left + 0

abbrev pub decreases-statements : goal.decreases-statements
decreases-statements l = 8 * length l.at.now.left + 4

abbrev pub decreases-entry : goal.decreases-entry
decreases-entry l = 8 * length l.at.now.left + 3

abbrev pub decreases-statement_within : goal.decreases-statement_within
decreases-statement_within l = 8 * length l.at.now.left + 2

abbrev pub decreases-branch : goal.decreases-branch
decreases-branch l = 8 * length l.at.now.left + 2

abbrev pub decreases-nested : goal.decreases-nested
decreases-nested l = 8 * length l.at.now.left + 3

abbrev pub decreases-if_else : goal.decreases-if_else
decreases-if_else l = 8 * length l.at.now.left + 0

abbrev pub decreases-otherwise : goal.decreases-otherwise
decreases-otherwise l = 8 * length l.at.now.left + 0

abbrev pub decreases-while_do : goal.decreases-while_do
decreases-while_do l = 8 * length l.at.now.left + 0

abbrev pub decreases-do_while : goal.decreases-do_while
decreases-do_while l = 8 * length l.at.now.left + 0

abbrev pub decreases-for_do : goal.decreases-for_do
decreases-for_do l = 8 * length l.at.now.left + 0

abbrev pub invariant-statements-loop-at : goal.invariant-statements-loop-at
invariant-statements-loop-at l = record {
  reads : parse limit n.Statements l.fn.at.depth l.fn.at.left ≡ stmts_after l.all l.at.depth l.at.left;
  shorter : length l.at.left ≤ length l.fn.at.left;
}

abbrev pub decreases-statements-loop-at : goal.decreases-statements-loop-at
decreases-statements-loop-at l = length l.at.left
