use Rattle.std.proofs.Common.{◌≡◌, drop}
use Rattle.steps_facts.specs.Around.{scalars_seen}
use Rattle.steps_pieces.specs.Put.{put_of}
use Rattle.steps_filling.specs.Parts.{went_copies}
use Rattle.steps_filling.proofs.copies.put_copies.Given as goal

-- what is left is copied behind what was
abbrev pub invariant-loop-x : goal.invariant-loop-x
invariant-loop-x l = went_copies (scalars_seen (drop l.x-index l.scalars)) l.d (put_of l.out) ≡ went_copies (scalars_seen l.scalars) l.d (put_of l.initial.out)
