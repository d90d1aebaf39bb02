use Rattle.linked_laws.proofs.Gated.{gates_stand}
use Rattle.linked_laws.proofs.laws.gates_stand_where_they_are_wanted.Goals as goal

pub returns : goal.returns
returns c = λ reads reader preserve os v linked. gates_stand reads reader preserve os v linked
