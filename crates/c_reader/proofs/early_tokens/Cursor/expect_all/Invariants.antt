use Rattle.std.proofs.Common.{◌≡◌, length}
use Rattle.c_reader.specs.EarlyForm.{tokens_of}
use Rattle.c_reader.specs.EarlyReading as reading
use Rattle.c_reader.specs.EarlyReading.{left}
use Rattle.c_reader.proofs.early_tokens.Cursor.expect_all.Given as goal

abbrev pub invariant-loop-word : goal.invariant-loop-word
invariant-loop-word l = reading.exactly (tokens_of l.fn.text) (left l.fn.self) ≡ reading.exactly (left l.wanted) (left l.self)

abbrev pub decreases-loop-word : goal.decreases-loop-word
decreases-loop-word l = length (left l.wanted)
