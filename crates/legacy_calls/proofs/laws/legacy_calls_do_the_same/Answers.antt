use Rattle.legacy_calls.proofs.Same.{outside_does_same, outside_never_stuck}
use Rattle.legacy_calls.proofs.laws.legacy_calls_do_the_same.Goals as goal

pub returns-clause-same : goal.returns-clause-same
returns-clause-same c = outside_does_same

pub returns-clause-never_stuck : goal.returns-clause-never_stuck
returns-clause-never_stuck c = outside_never_stuck
