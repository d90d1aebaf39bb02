use Rattle.x86_forms.proofs.DoesOfWatch.{does_accesses, does_control}
use Rattle.x86_forms.proofs.watch_laws.watch_judges_the_edges.Goals as goal

pub returns-clause-accesses : goal.returns-clause-accesses
returns-clause-accesses c = does_accesses

pub returns-clause-control : goal.returns-clause-control
returns-clause-control c = does_control
