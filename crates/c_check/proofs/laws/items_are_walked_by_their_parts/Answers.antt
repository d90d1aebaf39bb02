use Rattle.c_check.proofs.NodesParts.{counts_first}
use Rattle.c_check.proofs.laws.items_are_walked_by_their_parts.Goals as goal

pub returns-clause-declaration : goal.returns-clause-declaration
returns-clause-declaration c = λ d role state. counts_first d role state
