use Rattle.std.proofs.Common.{◌≡◌, ◌++◌, drop}
use Rattle.steps_structs.specs.Structs.{structs_known, parts_from}
use Rattle.steps_structs.proofs.members.placed.Given as goal

abbrev pub invariant-loop-member : goal.invariant-loop-member
invariant-loop-member l = l.parts ++ parts_from l.types (structs_known l.types l.structs) l.free (drop l.member-index l.members) ≡ parts_from l.types (structs_known l.types l.structs) 0 l.members
