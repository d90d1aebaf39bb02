use Rattle.c_accepted.proofs.Elaborating.{name_whole_globals}
use Rattle.c_accepted.proofs.laws.accepted_functions_name_whole_globals.Goals as goal

pub returns : goal.returns
returns c = name_whole_globals
