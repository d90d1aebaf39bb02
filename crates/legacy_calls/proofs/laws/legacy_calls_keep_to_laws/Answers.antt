use Rattle.legacy_calls.proofs.Relations.{outside_takes_none_back, output_grows_outside, accesses_judged_outside}
use Rattle.legacy_calls.proofs.Rooted.{outside_rooted}
use Rattle.legacy_calls.proofs.Pieces.{outside_in_pieces}
use Rattle.legacy_calls.proofs.Counted.{outside_counted}
use Rattle.legacy_calls.proofs.laws.legacy_calls_keep_to_laws.Goals as goal

pub returns-clause-turns : goal.returns-clause-turns
returns-clause-turns c = outside_takes_none_back

pub returns-clause-output : goal.returns-clause-output
returns-clause-output c = output_grows_outside

pub returns-clause-judged : goal.returns-clause-judged
returns-clause-judged c = accesses_judged_outside

pub returns-clause-roots : goal.returns-clause-roots
returns-clause-roots c = outside_rooted

pub returns-clause-pieces : goal.returns-clause-pieces
returns-clause-pieces c = outside_in_pieces

pub returns-clause-counted : goal.returns-clause-counted
returns-clause-counted c = outside_counted
