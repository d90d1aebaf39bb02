use Rattle.bounds_plan.specs.laws.Laws.{NoMoreTurns, OutputGrows, Judged, OnlyWrites, InPieces}
use Rattle.bounds_plan.proofs.Runs.{kept-taking_turn}
use Rattle.bounds_plan.proofs.Worlds.{fewer, longer, judged, only, pieces}
use Rattle.bounds_plan.proofs.RootedCalls.{rooted-passed-on}
use Rattle.bounds_plan.proofs.laws.outside_can_keep_to_laws.Goals as goal

pub returns-clause-turns : goal.returns-clause-turns
returns-clause-turns c = λ own h g args w log. kept-taking_turn NoMoreTurns fewer w log _ (λ u. h g args u log)

pub returns-clause-output : goal.returns-clause-output
returns-clause-output c = λ own h g args w log. kept-taking_turn OutputGrows longer w log _ (λ u. h g args u log)

pub returns-clause-judged : goal.returns-clause-judged
returns-clause-judged c = λ own h g args w log. kept-taking_turn Judged judged w log _ (λ u. h g args u log)

pub returns-clause-roots : goal.returns-clause-roots
returns-clause-roots c = rooted-passed-on

pub returns-clause-writes : goal.returns-clause-writes
returns-clause-writes c = λ own h g args w log. kept-taking_turn OnlyWrites only w log _ (λ u. h g args u log)

pub returns-clause-pieces : goal.returns-clause-pieces
returns-clause-pieces c event = λ own h g args w log. kept-taking_turn (InPieces event) (pieces event) w log _ (λ u. h g args u log)
