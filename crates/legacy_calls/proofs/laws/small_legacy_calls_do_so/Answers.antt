use Rattle.legacy_calls.proofs.Examples.{keeps_so, widens_so, calls_so, loads_so}
use Rattle.legacy_calls.proofs.laws.small_legacy_calls_do_so.Goals as goal

pub returns-clause-keeps : goal.returns-clause-keeps
returns-clause-keeps c = keeps_so

pub returns-clause-widens : goal.returns-clause-widens
returns-clause-widens c = widens_so

pub returns-clause-calls : goal.returns-clause-calls
returns-clause-calls c = calls_so

pub returns-clause-loads : goal.returns-clause-loads
returns-clause-loads c = loads_so
