use Rattle.legacy_calls.proofs.BySteps.{output_grows_by_steps, accesses_allowed_by_steps, stacks_kept_outside}
use Rattle.legacy_calls.proofs.Layers.{stacks, left}
use Rattle.legacy_calls.proofs.laws.legacy_calls_keep_to_laws_of_steps.Goals as goal

pub returns-clause-output : goal.returns-clause-output
returns-clause-output c = output_grows_by_steps

pub returns-clause-accesses : goal.returns-clause-accesses
returns-clause-accesses c = accesses_allowed_by_steps

pub returns-clause-stacks : goal.returns-clause-stacks
returns-clause-stacks c = stacks_kept_outside

pub returns-clause-programs : goal.returns-clause-programs
returns-clause-programs c = stacks

pub returns-clause-turns : goal.returns-clause-turns
returns-clause-turns c = left
