use Rattle.std.proofs.Common.{◌≡◌}
use Rattle.steps_facts.specs.Around.{scalars_seen}
use Rattle.steps_pieces.specs.Put.{put_of}
use Rattle.c_emit_initialisers.proofs.ZeroLemmas.{went_elements}
use Rattle.c_emit_initialisers.proofs.rests.put_elements_zero.Given as goal

-- what is left becomes 0 behind what did
abbrev pub invariant-elements : goal.invariant-elements
invariant-elements l = went_elements l.left l.size (scalars_seen l.scalars) l.place l.at l.to l.d (put_of l.out)
    ≡ went_elements l.count l.size (scalars_seen l.scalars) l.place l.at l.offset l.d (put_of l.initial.out)

abbrev pub decreases-elements : goal.decreases-elements
decreases-elements l = l.left
