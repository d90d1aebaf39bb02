use Rattle.std.proofs.Common.{◌≡◌, ◌≤◌, ◌+◌, IsTrue, drop}
use Rattle.x86_decode.specs.declared.states.State.TheVariants.{Start}
use Rattle.x86_decode.specs.Run.{run}
use Rattle.x86_decode.specs.Steps.{is_partial}
use Rattle.x86_decode.proofs.Length.{most_of}
use Rattle.x86_decode.proofs.reader.answer.Given as goal

abbrev pub invariant-loop-i : goal.invariant-loop-i
invariant-loop-i l = record {
  partial : IsTrue (is_partial l.state);
  short : l.i + most_of l.state ≤ 15;
  same : run (drop l.i l.bytes) l.state l.i ≡ run l.bytes Start 0;
}
