use Rattle.std.proofs.Common.{◌≡◌}
use Rattle.bounds_plan.specs.elaboration.Initialisers.{text_filled}
use Rattle.steps_facts.specs.Around.{standing_at}
use Rattle.steps_pieces.specs.Put.{put_of}
use Rattle.steps_filling.specs.Effects.{went_effects}
use Rattle.c_emit_initialisers.proofs.texts.put_text_filled.Given as goal

-- what is left of the text fills what is left of the array
abbrev pub invariant-bytes : goal.invariant-bytes
invariant-bytes l = went_effects (text_filled l.place l.kind l.left (standing_at l.at) l.to l.step l.rest) l.d (put_of l.out)
    ≡ went_effects (text_filled l.place l.kind l.count (standing_at l.at) l.offset l.step l.text) l.d (put_of l.initial.out)

abbrev pub decreases-bytes : goal.decreases-bytes
decreases-bytes l = l.left
