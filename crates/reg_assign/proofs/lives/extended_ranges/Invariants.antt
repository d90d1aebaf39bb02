use Rattle.std.proofs.Common.{◌≡◌, ◌++◌, map, drop}
use Rattle.reg_assign.specs.Loops.{extended_range}
use Rattle.reg_assign.proofs.lives.extended_ranges.Given as goal

abbrev pub invariant-loop-range : goal.invariant-loop-range
invariant-loop-range l = l.longer.items ++ map (extended_range l.loops) (drop l.range-index l.ranges) ≡ map (extended_range l.loops) l.ranges
