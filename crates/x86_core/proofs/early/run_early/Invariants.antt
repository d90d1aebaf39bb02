use Rattle.std.proofs.Common.{◌≡◌, length}
use Rattle.x86_forms.specs.EarlyCode.{CodeRun, CodeRuns}
use Rattle.x86_core.specs.EarlyMachine.{seen}
use Rattle.x86_core.proofs.EarlyRunning.{Now}
use Rattle.x86_core.proofs.early.run_early.Given as goal

abbrev pub invariant-loop-instr : goal.invariant-loop-instr
invariant-loop-instr g l = record {
  runs : (run : CodeRun) → CodeRuns l.code l.size run → Now run (g.O.Sink.held l.fn.out) (g.O.Sink.held l.out) l.rest (seen l.machine);
  no_fault : g.O.Sink.faults l.out ≡ g.O.Sink.faults l.fn.out;
}

abbrev pub decreases-loop-instr : goal.decreases-loop-instr
decreases-loop-instr g l = length l.rest
