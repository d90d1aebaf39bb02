use Rattle.std.proofs.Common.{◌≡◌, ◌≤◌, ◌+◌, drop}
use Rattle.call_sigs.specs.Signatures.{kinds_of_letters, pointers}
use Rattle.call_gates.proofs.parts.count_pointers.Given as goal

abbrev pub invariant-all : goal.invariant-all
invariant-all l = record {
  same : l.count + pointers (kinds_of_letters (drop l.letter-index l.params)) ≡ pointers (kinds_of_letters l.params);
  few : l.count ≤ l.letter-index;
}
