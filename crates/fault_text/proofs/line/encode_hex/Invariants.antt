use Rattle.std.proofs.Common.{◌≡◌, ◌≤◌, false, length, drop}
use Rattle.std.specs.Fmt.{digits, digits_onto}
use Rattle.fault_text.proofs.line.encode_hex.Given as goal

abbrev pub invariant-loop-i : goal.invariant-loop-i
invariant-loop-i l = record {
  within : l.i ≤ 64;
  long : length l.out ≡ 64;
  left : digits_onto l.i 16 false l.rest (drop l.i l.out) ≡ digits 16 false l.n;
}

abbrev pub decreases-loop-i : goal.decreases-loop-i
decreases-loop-i l = l.i
