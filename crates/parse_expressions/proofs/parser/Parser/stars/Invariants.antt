use Rattle.std.proofs.Common.{◌≡◌, ◌≤◌, ◌-◌, ◌+◌, length}
use Rattle.c_grammar.specs.Rules as n
use Rattle.c_grammar.specs.Reading.{parse, limit}
use Rattle.parse_expressions.proofs.Steps.{stars_after}
use Rattle.parse_expressions.proofs.parser.Parser.stars.Given as goal

abbrev pub invariant-loop-stars : goal.invariant-loop-stars
invariant-loop-stars l = record {
  reads : parse limit (n.Stars l.most) l.fn.self.depth l.fn.self.left ≡ stars_after l.most l.stars l.self.depth l.self.left;
  shorter : length l.self.left ≤ length l.fn.self.left;
  within : l.stars ≤ l.most;
}

abbrev pub decreases-loop-stars : goal.decreases-loop-stars
decreases-loop-stars l = l.most - l.stars
