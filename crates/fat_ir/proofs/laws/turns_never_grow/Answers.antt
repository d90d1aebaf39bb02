use Rattle.fat_ir.specs.Laws.{NoMoreTurns}
use Rattle.fat_ir.proofs.Runs.{led-steps_run, led-calls}
use Rattle.fat_ir.proofs.Worlds.{fewer}
use Rattle.fat_ir.proofs.laws.turns_never_grow.Goals as goal
use Rattle.std.proofs.Common.{arith}

pub returns-clause-steps : goal.returns-clause-steps
returns-clause-steps c = led-steps_run NoMoreTurns NoMoreTurns fewer

pub returns-clause-programs : goal.returns-clause-programs
returns-clause-programs c = led-calls NoMoreTurns NoMoreTurns fewer (λ w sp. omega arith)
