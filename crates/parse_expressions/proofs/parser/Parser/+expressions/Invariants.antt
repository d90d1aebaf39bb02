use Rattle.std.proofs.Common.{◌≡◌, ◌≤◌, ◌<◌, length, ℕ, ◌+◌, ◌*◌}
use Rattle.c_grammar.specs.Rules as n
use Rattle.c_grammar.specs.Reading.{parse, limit}
use Rattle.parse_expressions.specs.Levels.{sides}
use Rattle.parse_expressions.proofs.Climbs.{climbs}
use Rattle.parse_expressions.proofs.Steps.{args_after, parts_after}
use Rattle.parse_expressions.specs.Gives.{through}
use Rattle.parse_expressions.proofs.parser.Parser.+expressions.Given as goal

abbrev pub decreases-assignment : goal.decreases-assignment
decreases-assignment l = 16 * length l.self.now.left + 8

abbrev pub decreases-conditional : goal.decreases-conditional
decreases-conditional l = 16 * length l.self.now.left + 7

abbrev pub decreases-binary : goal.decreases-binary
decreases-binary l = 16 * length l.self.now.left + 6

abbrev pub decreases-unary : goal.decreases-unary
decreases-unary l = 16 * length l.self.now.left + 5

abbrev pub decreases-opened : goal.decreases-opened
decreases-opened l = 16 * length l.self.now.left + 10

abbrev pub decreases-inside : goal.decreases-inside
decreases-inside l = 16 * length l.self.now.left + 9

abbrev pub decreases-plain : goal.decreases-plain
decreases-plain l = 16 * length l.self.now.left + 4

abbrev pub decreases-sized : goal.decreases-sized
decreases-sized l = 16 * length l.self.now.left + 5

abbrev pub decreases-sized_opened : goal.decreases-sized_opened
decreases-sized_opened l = 16 * length l.self.now.left + 10

abbrev pub decreases-atom : goal.decreases-atom
decreases-atom l = 16 * length l.self.now.left + 2

abbrev pub decreases-named : goal.decreases-named
decreases-named l = 16 * length l.self.now.left + 1

abbrev pub decreases-arguments : goal.decreases-arguments
decreases-arguments l = 16 * length l.self.now.left + 10

abbrev pub decreases-whole : goal.decreases-whole
decreases-whole l = 16 * length l.self.now.left + 9

abbrev pub decreases-parts : goal.decreases-parts
decreases-parts l = 16 * length l.self.now.left + 1

abbrev pub decreases-part : goal.decreases-part
decreases-part l = 16 * length l.self.now.left

abbrev pub invariant-binary-loop-level : goal.invariant-binary-loop-level
invariant-binary-loop-level l = record {
  reads : sides l.levels l.fn.self.depth l.fn.self.left ≡ climbs l.levels l.left l.self.depth l.self.left;
  shorter : length l.self.left < length l.fn.self.left;
}

abbrev pub decreases-binary-loop-level : goal.decreases-binary-loop-level
decreases-binary-loop-level l = length l.self.left

abbrev pub invariant-arguments-loop-self : goal.invariant-arguments-loop-self
invariant-arguments-loop-self l = record {
  reads : parse limit n.Arguments l.fn.self.depth l.fn.self.left ≡ args_after l.args l.self.depth l.self.left;
  shorter : length l.self.left ≤ length l.fn.self.left;
}

abbrev pub decreases-arguments-loop-self : goal.decreases-arguments-loop-self
decreases-arguments-loop-self l = length l.self.left

abbrev pub invariant-parts-loop-self : goal.invariant-parts-loop-self
invariant-parts-loop-self l = record {
  reads : through (λ f. f l.fn.base) (parse limit n.Parts l.fn.self.depth l.fn.self.left) ≡ parts_after l.left l.self.depth l.self.left;
  shorter : length l.self.left ≤ length l.fn.self.left;
}

abbrev pub decreases-parts-loop-self : goal.decreases-parts-loop-self
decreases-parts-loop-self l = length l.self.left
