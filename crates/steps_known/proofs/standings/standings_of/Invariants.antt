use Rattle.std.proofs.Common.{◌≡◌, ◌++◌, drop, map}
use Rattle.c_types.specs.Types.{type_at}
use Rattle.c_accepted.specs.Planned.{stand_of}
use Rattle.steps_structs.specs.Structs.{structs_known}
use Rattle.steps_known.specs.Standings.{standings_from}
use Rattle.steps_known.proofs.standings.standings_of.Given as goal

abbrev pub invariant-loop-one : goal.invariant-loop-one
invariant-loop-one l = let structs = structs_known l.types l.structs in
    l.all ++ standings_from structs l.x (map (type_at l.types) (drop l.one-index l.variables)) (map stand_of l.left)
    ≡ standings_from structs 0 (map (type_at l.types) l.variables) (map stand_of l.spots)
