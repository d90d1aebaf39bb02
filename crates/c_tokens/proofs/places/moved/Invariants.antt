use Rattle.std.proofs.Common.{◌≡◌, ◌≤◌, ◌+◌, drop}
use Rattle.std.specs.Prelude.{fold}
use Rattle.c_tokens.specs.Places as spec
use Rattle.c_tokens.proofs.places.moved.Given as goal

abbrev pub invariant-loop-b : goal.invariant-loop-b
invariant-loop-b l = record {
  same : fold spec.step l.fn.from l.bytes ≡ fold spec.step l.at (drop l.b-index l.bytes);
  line : l.at.line ≤ l.fn.from.line + l.b-index;
  col : l.at.col ≤ l.fn.from.col + l.b-index;
}
