use Rattle.reg_assign.proofs.Giving.{Given}
use Rattle.reg_assign.proofs.places.place_values.Given as goal

abbrev pub invariant-loop-value : goal.invariant-loop-value
invariant-loop-value l = Given l.fun l.lives l.bounds l.registers l.wishes l.value-index l.board.until l.board.places
