use Rattle.std.proofs.Common.{◌≡◌, false}
use Rattle.parse_expressions.specs.Levels.{is_within}
use Rattle.parse_expressions.proofs.levels.level_within.Given as goal

abbrev pub invariant-loop-level : goal.invariant-loop-level
invariant-loop-level l = is_within l.level l.class ≡ false
