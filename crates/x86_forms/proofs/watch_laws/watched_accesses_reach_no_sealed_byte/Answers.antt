use Rattle.x86_forms.proofs.WatchFirst.{access-strays, access-found, access-fine}
use Rattle.x86_forms.proofs.watch_laws.watched_accesses_reach_no_sealed_byte.Goals as goal

pub returns-clause-strays : goal.returns-clause-strays
returns-clause-strays c = λ i from s x h g. (access-strays i from s x h g, access-found i from s x h g)

pub returns-clause-fine : goal.returns-clause-fine
returns-clause-fine c = access-fine
