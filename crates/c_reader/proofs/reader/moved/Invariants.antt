use Rattle.std.proofs.Common.{◌≡◌, ◌≤◌, ◌+◌, drop}
use Rattle.std.specs.Prelude.{fold}
use Rattle.c_tokens.specs.Places as spec
use Rattle.c_reader.proofs.reader.moved.Given as goal

abbrev pub invariant-loop-byte : goal.invariant-loop-byte
invariant-loop-byte l = record {
  same : fold spec.step l.fn.from l.bytes ≡ fold spec.step l.at (drop l.byte-index l.bytes);
  line : l.at.line ≤ l.fn.from.line + l.byte-index;
  col : l.at.col ≤ l.fn.from.col + l.byte-index;
}
