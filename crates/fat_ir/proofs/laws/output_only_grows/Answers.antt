use Rattle.fat_ir.specs.Laws.{OutputGrows, AccessesGrow}
use Rattle.fat_ir.proofs.Runs.{led-steps_run, led-calls}
use Rattle.fat_ir.proofs.Worlds.{longer_output, more_accesses, output_framed, accesses_framed}
use Rattle.fat_ir.proofs.laws.output_only_grows.Goals as goal

pub returns-clause-output : goal.returns-clause-output
returns-clause-output c = led-steps_run OutputGrows OutputGrows longer_output

pub returns-clause-output_of_programs : goal.returns-clause-output_of_programs
returns-clause-output_of_programs c = led-calls OutputGrows OutputGrows longer_output output_framed

pub returns-clause-accesses : goal.returns-clause-accesses
returns-clause-accesses c = led-steps_run AccessesGrow AccessesGrow more_accesses

pub returns-clause-accesses_of_programs : goal.returns-clause-accesses_of_programs
returns-clause-accesses_of_programs c = led-calls AccessesGrow AccessesGrow more_accesses accesses_framed
