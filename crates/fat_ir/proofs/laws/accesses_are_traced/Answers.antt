use Rattle.fat_ir.specs.Laws.{Traced, InPieces}
use Rattle.fat_ir.proofs.Runs.{led-steps_run, led-calls}
use Rattle.fat_ir.proofs.Worlds.{all_traced, traced_framed, in_pieces, pieces_framed}
use Rattle.fat_ir.proofs.laws.accesses_are_traced.Goals as goal

pub returns-clause-steps : goal.returns-clause-steps
returns-clause-steps c = led-steps_run Traced Traced all_traced

pub returns-clause-programs : goal.returns-clause-programs
returns-clause-programs c = led-calls Traced Traced all_traced traced_framed

pub returns-clause-between : goal.returns-clause-between
returns-clause-between c event = led-calls (InPieces event) (InPieces event) (in_pieces event) (pieces_framed event)
