use Rattle.guest_services.specs.Blocks.{IsFront}
use Rattle.guest_services.proofs.blocks.first_free.Given as goal

abbrev pub invariant-loop-i : goal.invariant-loop-i
invariant-loop-i l = IsFront l.i l.blocks
