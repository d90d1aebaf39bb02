use Rattle.std.proofs.Common.{◌≡◌, ◌≤◌, ◌+◌, ◌*◌, ◌++◌, length}
use Rattle.call_gates.proofs.Loops.{rest_of}
use Rattle.call_gates.proofs.parts.extend_parameters.Given as goal

abbrev pub invariant-all : goal.invariant-all
invariant-all l = record {
  same : l.out.items ++ rest_of l.k l.params ≡ l.fn.out.items ++ rest_of 0 l.params;
  few : length l.out.items ≤ length l.fn.out.items + 4 * l.k;
}
