use Rattle.c_accepted.proofs.Elaborating.{found_alike, gone_alike}
use Rattle.c_accepted.proofs.laws.accepted_sources_are_elaborated_alike.Goals as goal

pub returns-clause-expressions : goal.returns-clause-expressions
returns-clause-expressions c = found_alike

pub returns-clause-sources : goal.returns-clause-sources
returns-clause-sources c = gone_alike
