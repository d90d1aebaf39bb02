use Rattle.c_accepted.proofs.Meaning.{names_mean, calls_mean}
use Rattle.c_accepted.proofs.laws.names_mean_what_is_found.Goals as goal

pub returns-clause-names : goal.returns-clause-names
returns-clause-names c = names_mean

pub returns-clause-calls : goal.returns-clause-calls
returns-clause-calls c = calls_mean
