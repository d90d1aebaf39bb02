use Rattle.place_plan.proofs.PlannedFrames.{frames_small}
use Rattle.place_plan.proofs.laws.planned_frames_are_small.Goals as goal

pub returns : goal.returns
returns c = λ tree room few formed h.
    frames_small c.multiples_are_the_next.ensures.first c.checked_sizes_are_those_of_types.ensures tree (c.accepted_sources_can_be_numbered.ensures tree room few formed h) (c.accepted_frames_have_room.ensures tree room few formed h)
