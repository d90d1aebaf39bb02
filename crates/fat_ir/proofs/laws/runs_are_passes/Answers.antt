use Rattle.fat_ir.proofs.Rooms.{run-by-passes}
use Rattle.fat_ir.proofs.laws.runs_are_passes.Goals as goal

pub returns : goal.returns
returns c = run-by-passes
