-- The layout of an accepted source by its plan has small offsets.
use Rattle.std.proofs.Common.{ℕ, zero, suc, ◌^◌, ◌<◌, ◌≤◌, List, [], ◌∷◌, map, arith}
use Rattle.std.specs.Prelude.{All, slice_index, slice_index_or}
use Rattle.std.specs.List.{AllByRecursion}
use Rattle.std.proofs.lemmas.List.Elements.{All-tail}
use Rattle.c_tree.specs.declared.tree.Tree.{Tree}
use Rattle.c_check.specs.Accepted.{after}
use Rattle.c_check.specs.Standing.{structs_seen}
use Rattle.c_types.specs.declared.layout.Layout.{Layout}
use Rattle.c_types.specs.Types.{StructType}
use Rattle.c_types.specs.Layouts.{next_multiple, layout_of, layout_of_struct}
use Rattle.place_plan.specs.declared.plans.FramePlan.{FramePlan}
use Rattle.place_plan.specs.Frames.{Variable, values_of, nothing_taken, spot_at, free_after, spots_from, free_after_all, frame_plan}
use Rattle.place_plan.specs.Source.{body_known, plan_of}
use Rattle.bounds_plan.specs.elaboration.Functions.{no_frame}
use Rattle.c_accepted.specs.Planned.{stand_of, layout_frame, layout_of_plan}
use Rattle.accepted_trees.specs.Limits.{StandWithin, LayoutWithin}
use Rattle.accepted_trees.proofs.Sizes.{next_enough, by_some, struct_some}

-- ---- one frame

one_grows : (values : ℕ) (layout : Layout) (free : _) → 1 ≤ layout.align → free.byte ≤ (free_after values layout free).byte
one_grows zero layout free some = omega (arith, next_enough free.byte layout.align some)
one_grows (suc n) layout free some = omega arith

all_grow : (structs : List StructType) (free : _) (vs : List Variable) → free.byte ≤ (free_after_all structs free vs).byte
all_grow structs free [] = omega arith
all_grow structs free (v ∷ more) = let layout = layout_of structs v.type in
    let one = one_grows (values_of v.taken v.type) layout free (by_some (layout_of_struct structs) (struct_some structs) v.type) in
    let rest = all_grow structs (free_after (values_of v.taken v.type) layout free) more in omega (arith, one, rest)

spot_within : (values : ℕ) (layout : Layout) (free : _) → (free_after values layout free).byte ≤ 1048576 → StandWithin (stand_of (spot_at values layout free))
spot_within zero layout free le = omega (arith, le)
spot_within (suc n) layout free le = omega arith

spots_within : (structs : List StructType) (free : _) (vs : List Variable) → (free_after_all structs free vs).byte ≤ 1048576 → AllByRecursion StandWithin (map stand_of (spots_from structs free vs))
spots_within structs free [] le = tt
spots_within structs free (v ∷ more) le = let layout = layout_of structs v.type in let next = free_after (values_of v.taken v.type) layout free in let grows = all_grow structs next more in
    (spot_within (values_of v.taken v.type) layout free (omega (arith, grows, le)), spots_within structs next more le)

-- ---- all frames

frames_within : (structs : List StructType) (bodies : List (List Variable)) → All (λ (f : FramePlan). f.size ≤ 1048576) (map (frame_plan structs) bodies) → (n : ℕ)
    → AllByRecursion StandWithin (slice_index_or (map layout_frame (map (frame_plan structs) bodies)) n no_frame).stands
frames_within structs [] h n = tt
frames_within structs (b ∷ more) h zero = let small : (frame_plan structs b).size ≤ 1048576 = h 0 (frame_plan structs b) (omega arith) in let byte = (free_after_all structs nothing_taken b).byte in
    let end : byte ≤ next_multiple byte 16 = next_enough byte 16 (omega arith) in spots_within structs nothing_taken b (omega (arith, small, end))
frames_within structs (b ∷ more) h (suc n) = frames_within structs more (All-tail (λ (f : FramePlan). f.size ≤ 1048576) (frame_plan structs b) (map (frame_plan structs) more) h) n

pub plan_within : (tree : Tree) (literals : List ℕ) → All (λ (f : FramePlan). f.size ≤ 1048576) (plan_of tree).frames → ((number : ℕ) → slice_index literals number < 2 ^ 31) → LayoutWithin (layout_of_plan tree literals)
unfolding plan_of
plan_within tree literals small low = record { frames = frames_within (structs_seen (after tree).scope.structs) (map body_known (after tree).bodies) small; literals = low }
