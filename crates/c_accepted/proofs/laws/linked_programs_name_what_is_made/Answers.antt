use Rattle.c_accepted.proofs.Linking.{linked_whole}
use Rattle.c_accepted.proofs.Making.{linked_made}
use Rattle.c_accepted.proofs.laws.linked_programs_name_what_is_made.Goals as goal

pub returns-clause-made : goal.returns-clause-made
returns-clause-made c = linked_made c.elaborated_functions_name_their_own.ensures

pub returns-clause-roots : goal.returns-clause-roots
returns-clause-roots c = λ start takes_outside program linked made. c.bounds_have_roots.ensures.calls start program (linked_made c.elaborated_functions_name_their_own.ensures start takes_outside program linked made)

pub returns-clause-runs : goal.returns-clause-runs
returns-clause-runs c = λ start takes_outside program linked made. c.runs_stay_within_rooted_bounds.ensures start program (linked_whole takes_outside program linked) (linked_made c.elaborated_functions_name_their_own.ensures start takes_outside program linked made)
