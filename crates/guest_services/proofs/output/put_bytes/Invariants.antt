use Rattle.std.proofs.Common.{◌≡◌, ◌-◌, ◌≤◌}
use Rattle.mx_base.specs.Outside.{Adds}
use Rattle.mx_base.specs.Memory.{list_at}
use Rattle.paged_memory.specs.Paged.{bytes_of}
use Rattle.guest_services.proofs.output.put_bytes.Given as goal

abbrev pub invariant-loop-at : goal.invariant-loop-at
invariant-loop-at g l = record {
  within : l.at ≤ l.n;
  sent : Adds (g.O.Sink.held l.fn.out) (g.O.Sink.held l.out) (list_at l.at (bytes_of l.m) l.from);
  no_fault : g.O.Sink.faults l.out ≡ g.O.Sink.faults l.fn.out;
}

abbrev pub decreases-loop-at : goal.decreases-loop-at
decreases-loop-at g l = l.n - l.at
