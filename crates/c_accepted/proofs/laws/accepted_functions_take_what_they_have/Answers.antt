use Rattle.c_accepted.proofs.Elaborating.{take_what_they_have}
use Rattle.c_accepted.proofs.Linking.{take_by_symbol}
use Rattle.c_accepted.proofs.laws.accepted_functions_take_what_they_have.Goals as goal

pub returns-clause-signatures : goal.returns-clause-signatures
returns-clause-signatures c = take_what_they_have

pub returns-clause-symbols : goal.returns-clause-symbols
returns-clause-symbols c = take_by_symbol
