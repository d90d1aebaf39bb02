use Rattle.program_laws.proofs.Compiled.{has_functions, same_counts}
use Rattle.program_laws.proofs.Whole.{program_means}
use Rattle.program_laws.proofs.laws.images_of_compiled_programs_end_as_they_mean.Goals as goal

pub returns-clause-functions : goal.returns-clause-functions
returns-clause-functions c = λ k image places inner stub takes_outside program name has. has_functions c.compiled_functions_are_what_code_asks.ensures k image places inner stub takes_outside program name has

pub returns-clause-run : goal.returns-clause-run
returns-clause-run c = λ k image places inner stub takes_outside program name has. program_means k image places takes_outside program name inner stub has.fits
    (same_counts c.compiled_functions_are_what_code_asks.ensures k image places inner stub takes_outside program name has)
    (has_functions c.compiled_functions_are_what_code_asks.ensures k image places inner stub takes_outside program name has)
