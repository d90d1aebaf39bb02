use Rattle.std.proofs.Common.{◌≡◌, drop}
use Rattle.bounds_plan.specs.elaboration.Initialisers.{member_zeros}
use Rattle.steps_facts.specs.Around.{standing_at, part_types, part_offsets}
use Rattle.steps_pieces.specs.Put.{put_of}
use Rattle.steps_filling.specs.Effects.{went_effects}
use Rattle.c_emit_initialisers.proofs.rests.put_members_rest.Given as goal

-- what is left becomes 0 behind what did
abbrev pub invariant-loop-part : goal.invariant-loop-part
invariant-loop-part g l = let table = g.K.Knows.table l.known in let structs = (g.K.Knows.around l.known).structs in
    went_effects (member_zeros structs l.place (part_types table (drop l.part-index l.parts)) (part_offsets (drop l.part-index l.parts)) (standing_at l.at) l.offset) l.d (put_of l.out)
    ≡ went_effects (member_zeros structs l.place (part_types table l.parts) (part_offsets l.parts) (standing_at l.at) l.offset) l.d (put_of l.initial.out)
