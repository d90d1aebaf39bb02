use Rattle.std.proofs.Common.{◌≡◌, ◌+◌, drop}
use Rattle.bounds_plan.specs.elaboration.Places.{place_among}
use Rattle.steps_structs.proofs.members.place_among.Given as goal

abbrev pub invariant-loop-one : goal.invariant-loop-one
invariant-loop-one l = record {
  at : l.at ≡ l.one-index;
  place : l.at + place_among (drop l.one-index l.names) l.name ≡ place_among l.names l.name;
}
