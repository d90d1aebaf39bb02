use Rattle.c_accepted.proofs.Elaborating.{of_their_bodies}
use Rattle.c_accepted.proofs.laws.accepted_functions_are_of_their_bodies.Goals as goal

pub returns : goal.returns
returns c = of_their_bodies
