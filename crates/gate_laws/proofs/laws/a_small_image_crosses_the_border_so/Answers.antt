use Rattle.gate_laws.proofs.Examples.{entry_so, callback_so, exit_so, before_so}
use Rattle.gate_laws.proofs.laws.a_small_image_crosses_the_border_so.Goals as goal

pub returns-clause-entry : goal.returns-clause-entry
returns-clause-entry c = entry_so

pub returns-clause-callback : goal.returns-clause-callback
returns-clause-callback c = callback_so

pub returns-clause-exit : goal.returns-clause-exit
returns-clause-exit c = exit_so

pub returns-clause-before : goal.returns-clause-before
returns-clause-before c = before_so
