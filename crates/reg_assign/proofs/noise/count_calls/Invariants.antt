use Rattle.std.proofs.Common.{◌≡◌, ◌≤◌, ◌++◌, drop}
use Rattle.reg_assign.specs.Noise.{counts_from}
use Rattle.reg_assign.proofs.noise.count_calls.Given as goal

abbrev pub invariant-loop-step : goal.invariant-loop-step
invariant-loop-step l = record {
  few : l.total ≤ l.step-index;
  counts : l.counts.items ++ counts_from l.total (drop l.step-index l.steps) ≡ counts_from 0 l.steps;
}
