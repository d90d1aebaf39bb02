use Rattle.program_laws.proofs.Example.{has_functions, is_linked, example_ends, example_means}
use Rattle.program_laws.proofs.laws.a_small_image_meets_what_is_asked.Goals as goal

pub returns-clause-functions : goal.returns-clause-functions
returns-clause-functions c = has_functions

pub returns-clause-linked : goal.returns-clause-linked
returns-clause-linked c = is_linked

pub returns-clause-run : goal.returns-clause-run
returns-clause-run c = example_ends

pub returns-clause-meaning : goal.returns-clause-meaning
returns-clause-meaning c = example_means
