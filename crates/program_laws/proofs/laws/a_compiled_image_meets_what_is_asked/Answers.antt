use Rattle.program_laws.proofs.CompiledExample.{has_compiled, compiled_linked, compiled_means}
use Rattle.program_laws.proofs.laws.a_compiled_image_meets_what_is_asked.Goals as goal

pub returns-clause-compiled : goal.returns-clause-compiled
returns-clause-compiled c = has_compiled

pub returns-clause-linked : goal.returns-clause-linked
returns-clause-linked c = compiled_linked

pub returns-clause-meaning : goal.returns-clause-meaning
returns-clause-meaning c = compiled_means
