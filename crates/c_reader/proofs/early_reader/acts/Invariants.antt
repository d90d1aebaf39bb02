use Rattle.std.proofs.Common.{◌≡◌, ◌≤◌, ◌-◌, [], ◌∷◌, vec_len}
use Rattle.c_reader.specs.EarlyReading as reading
use Rattle.c_reader.specs.EarlyReading.{left}
use Rattle.c_reader.proofs.early_reader.acts.Given as goal

abbrev pub invariant-loop-acts : goal.invariant-loop-acts
invariant-loop-acts l = record {
  few : vec_len l.acts ≤ 1000;
  reads : reading.acts_of 1000 (l.name ∷ []) (left l.fn.text) ≡ reading.before l.acts.items (reading.acts_of (1000 - vec_len l.acts) (l.name ∷ []) (left l.text));
}

abbrev pub decreases-loop-acts : goal.decreases-loop-acts
decreases-loop-acts l = 1000 - vec_len l.acts
