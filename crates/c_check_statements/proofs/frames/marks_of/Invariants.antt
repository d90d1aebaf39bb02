use Rattle.std.proofs.Common.{◌≡◌, drop, false, replicate}
use Rattle.c_check_statements.specs.Frames.{marked}
use Rattle.c_check_statements.proofs.frames.marks_of.Given as goal

abbrev pub invariant-numbers : goal.invariant-numbers
invariant-numbers l = marked 0 (drop l.number-index l.numbers) l.marks.items ≡ marked 0 l.numbers (replicate l.count false)
