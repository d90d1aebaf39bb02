use Rattle.std.proofs.Common.{◌≡◌, ◌+◌, drop}
use Rattle.bounds_plan.specs.elaboration.Places.{place_among}
use Rattle.steps_structs.specs.Structs.{tags_known}
use Rattle.steps_structs.proofs.members.tag_among.Given as goal

abbrev pub invariant-loop-one : goal.invariant-loop-one
invariant-loop-one l = record {
  at : l.at ≡ l.one-index;
  place : l.at + place_among (tags_known (drop l.one-index l.structs)) l.tag ≡ place_among (tags_known l.structs) l.tag;
}
