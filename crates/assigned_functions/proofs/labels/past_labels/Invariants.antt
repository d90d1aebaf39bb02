use Rattle.std.proofs.Common.{◌≡◌, max, drop}
use Rattle.assigned_functions.specs.Labels as spec
use Rattle.assigned_functions.proofs.labels.past_labels.Given as goal

abbrev pub invariant-steps : goal.invariant-steps
invariant-steps l = max l.past (spec.past_labels (drop l.step-index l.steps)) ≡ spec.past_labels l.steps
