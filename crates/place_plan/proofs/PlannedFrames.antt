-- The frames of the plan of an accepted source are within the limit.
use Rattle.std.proofs.Common.{◌≤◌, refl, List, [], ◌∷◌, map, All, arith}
use Rattle.std.specs.List.{AllByRecursion}
use Rattle.std.proofs.lemmas.List.Elements.{All-from_recursion, All-tail}
use Rattle.c_tree.specs.declared.tree.Tree.{Tree}
use Rattle.c_check_rules.specs.declared.names.StructInfo.{StructInfo}
use Rattle.c_check_statements.specs.declared.state.Body.{Body}
use Rattle.c_check.specs.Accepted.{after}
use Rattle.c_check.specs.Rooms.{HaveRoom}
use Rattle.c_check.specs.Standing.{structs_seen, BodyStands, CanBeNumbered}
use Rattle.place_plan.specs.declared.plans.FramePlan.{FramePlan}
use Rattle.place_plan.specs.Frames.{frame_plan, free_after_all, nothing_taken}
use Rattle.place_plan.specs.Source.{variable_known, body_known, plan_of}
use Rattle.place_plan.proofs.Assembled.{AllAgree, variables_agree, FirstMultiple, SizesAgree, sizes}
use Rattle.place_plan.proofs.Room.{frame_has_room}

abbrev IsSmall : FramePlan → Type 0
IsSmall f = f.size ≤ 1048576

small_each : (structs : List StructInfo) (bs : List Body) → AllAgree structs → FirstMultiple → All (BodyStands structs) bs → HaveRoom structs bs → AllByRecursion IsSmall (map (frame_plan (structs_seen structs)) (map body_known bs))
small_each structs [] agree first stand room = tt
small_each structs (b ∷ bs) agree first stand room =
    let le = frame_has_room structs (structs_seen structs) b.variables (variables_agree structs agree b.variables (stand 0 b (omega arith))) room.0 in (
      first (free_after_all (structs_seen structs) nothing_taken (map variable_known b.variables)).byte 16 1048576 (omega arith) le refl,
      small_each structs bs agree first (All-tail (BodyStands structs) b bs stand) room.1,
    )

pub frames_small : FirstMultiple → SizesAgree → (tree : Tree) → CanBeNumbered (after tree) → HaveRoom (after tree).scope.structs (after tree).bodies → All (λ (f : FramePlan). f.size ≤ 1048576) (plan_of tree).frames
unfolding plan_of
frames_small first law tree known room = let state = after tree in
    All-from_recursion IsSmall (map (frame_plan (structs_seen state.scope.structs)) (map body_known state.bodies)) (small_each state.scope.structs state.bodies (sizes law state known) first known.bodies room)
