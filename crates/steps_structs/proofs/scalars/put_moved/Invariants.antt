use Rattle.std.proofs.Common.{◌≡◌, ◌++◌, map, drop}
use Rattle.steps_structs.specs.Scalars.{moved}
use Rattle.steps_structs.proofs.scalars.put_moved.Given as goal

abbrev pub invariant-loop-one : goal.invariant-loop-one
invariant-loop-one l = l.all ++ map (moved l.offset) (drop l.one-index l.part) ≡ l.initial.all ++ map (moved l.offset) l.part
