use Rattle.std.proofs.Common.{◌≡◌, ◌++◌, drop, map}
use Rattle.c_types.specs.Types.{structs_of}
use Rattle.place_plan.specs.Frames.{frame_plan}
use Rattle.place_plan.specs.Plans.{body_variables}
use Rattle.place_plan.proofs.source.plan_frames.Given as goal

abbrev pub invariant-bodies : goal.invariant-bodies
invariant-bodies l = l.frames ++ map (frame_plan (structs_of l.table)) (map (body_variables l.table) (drop l.body-index l.bodies)) ≡ map (frame_plan (structs_of l.table)) (map (body_variables l.table) l.bodies)
