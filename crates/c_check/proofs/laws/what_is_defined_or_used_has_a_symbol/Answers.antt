use Rattle.c_check.proofs.Ordered.{globals_have_numbers, functions_have_numbers}
use Rattle.c_check.proofs.laws.what_is_defined_or_used_has_a_symbol.Goals as goal

pub returns-clause-globals : goal.returns-clause-globals
returns-clause-globals c = globals_have_numbers

pub returns-clause-functions : goal.returns-clause-functions
returns-clause-functions c = functions_have_numbers
