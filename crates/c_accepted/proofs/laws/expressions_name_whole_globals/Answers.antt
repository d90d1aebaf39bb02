use Rattle.c_accepted.proofs.Sizing.{names_typed}
use Rattle.c_accepted.proofs.SizingNodes.{effects_whole}
use Rattle.c_accepted.proofs.laws.expressions_name_whole_globals.Goals as goal

pub returns-clause-types : goal.returns-clause-types
returns-clause-types c = names_typed

pub returns-clause-objects : goal.returns-clause-objects
returns-clause-objects c = effects_whole
