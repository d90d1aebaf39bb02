use Rattle.std.proofs.Common.{◌≡◌, map, drop}
use Rattle.bounds_plan.specs.elaboration.Scalars.{scalar_at}
use Rattle.bounds_plan.specs.elaboration.Initialisers.{zero_written}
use Rattle.steps_facts.specs.Around.{standing_at, scalars_seen}
use Rattle.steps_pieces.specs.Put.{put_of}
use Rattle.steps_filling.specs.Effects.{went_effects}
use Rattle.steps_filling.proofs.zeros.put_zeros.Given as goal

-- what is left becomes 0 behind what did
abbrev pub invariant-loop-x : goal.invariant-loop-x
invariant-loop-x l = went_effects (map (zero_written l.place (standing_at l.at)) (map (scalar_at l.offset) (scalars_seen (drop l.x-index l.scalars)))) l.d (put_of l.out)
    ≡ went_effects (map (zero_written l.place (standing_at l.at)) (map (scalar_at l.offset) (scalars_seen l.scalars))) l.d (put_of l.initial.out)
