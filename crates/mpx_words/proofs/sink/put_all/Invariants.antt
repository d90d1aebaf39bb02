use Rattle.std.proofs.Common.{length, ◌-◌, ◌≡◌, ◌≤◌, take}
use Rattle.mx_base.specs.Outside.{Adds}
use Rattle.mpx_words.proofs.sink.put_all.Given as goal

abbrev pub invariant-loop-done : goal.invariant-loop-done
invariant-loop-done g l = record {
  within : l.done ≤ length l.bytes;
  put : Adds (g.S.Sink.held l.initial.sink) (g.S.Sink.held l.sink) (take l.done l.bytes);
  kept : g.S.Sink.faults l.sink ≡ g.S.Sink.faults l.initial.sink;
}

abbrev pub decreases-loop-done : goal.decreases-loop-done
decreases-loop-done g l = length l.bytes - l.done
