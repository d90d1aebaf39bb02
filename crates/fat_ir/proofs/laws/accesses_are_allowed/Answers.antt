use Rattle.fat_ir.specs.Laws.{AccessesAllowed}
use Rattle.fat_ir.proofs.Runs.{led-steps_run, led-calls}
use Rattle.fat_ir.proofs.Worlds.{all_allowed, allowed_framed}
use Rattle.fat_ir.proofs.laws.accesses_are_allowed.Goals as goal

pub returns-clause-steps : goal.returns-clause-steps
returns-clause-steps c = led-steps_run AccessesAllowed AccessesAllowed all_allowed

pub returns-clause-programs : goal.returns-clause-programs
returns-clause-programs c = led-calls AccessesAllowed AccessesAllowed all_allowed allowed_framed
