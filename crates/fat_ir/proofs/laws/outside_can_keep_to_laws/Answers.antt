use Rattle.fat_ir.specs.Laws.{NoMoreTurns, OutputGrows, AccessesGrow, Traced, AccessesAllowed, InPieces}
use Rattle.fat_ir.proofs.Runs.{led-taking_turn}
use Rattle.fat_ir.proofs.Worlds.{fewer, longer_output, more_accesses, all_traced, all_allowed, in_pieces}
use Rattle.fat_ir.proofs.laws.outside_can_keep_to_laws.Goals as goal

pub returns-clause-turns : goal.returns-clause-turns
returns-clause-turns c = λ own h g args w. led-taking_turn NoMoreTurns NoMoreTurns fewer w _ (λ u. h g args u)

pub returns-clause-output : goal.returns-clause-output
returns-clause-output c = λ own h g args w. led-taking_turn OutputGrows OutputGrows longer_output w _ (λ u. h g args u)

pub returns-clause-accesses : goal.returns-clause-accesses
returns-clause-accesses c = λ own h g args w. led-taking_turn AccessesGrow AccessesGrow more_accesses w _ (λ u. h g args u)

pub returns-clause-traced : goal.returns-clause-traced
returns-clause-traced c = λ own h g args w. led-taking_turn Traced Traced all_traced w _ (λ u. h g args u)

pub returns-clause-allowed : goal.returns-clause-allowed
returns-clause-allowed c = λ own h g args w. led-taking_turn AccessesAllowed AccessesAllowed all_allowed w _ (λ u. h g args u)

pub returns-clause-pieces : goal.returns-clause-pieces
returns-clause-pieces c event = λ own h g args w. led-taking_turn (InPieces event) (InPieces event) (in_pieces event) w _ (λ u. h g args u)
