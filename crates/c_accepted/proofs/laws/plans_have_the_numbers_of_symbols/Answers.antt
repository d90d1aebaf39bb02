use Rattle.c_accepted.proofs.Apart.{globals_numbered, functions_numbered, symbol_got, literals_got}
use Rattle.c_accepted.proofs.laws.plans_have_the_numbers_of_symbols.Goals as goal

pub returns-clause-globals : goal.returns-clause-globals
returns-clause-globals c = globals_numbered

pub returns-clause-functions : goal.returns-clause-functions
returns-clause-functions c = functions_numbered

pub returns-clause-symbols : goal.returns-clause-symbols
returns-clause-symbols c = symbol_got

pub returns-clause-last : goal.returns-clause-last
returns-clause-last c = literals_got
