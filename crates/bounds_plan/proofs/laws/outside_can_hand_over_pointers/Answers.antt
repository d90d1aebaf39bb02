use Rattle.bounds_plan.proofs.Outside.{lends-same, lends-fewer, lends-longer, lends-judged, lends-pieces, lends-rooted}
use Rattle.bounds_plan.proofs.laws.outside_can_hand_over_pointers.Goals as goal

pub returns-clause-same : goal.returns-clause-same
returns-clause-same c = lends-same

pub returns-clause-turns : goal.returns-clause-turns
returns-clause-turns c = lends-fewer

pub returns-clause-pieces : goal.returns-clause-pieces
returns-clause-pieces c = lends-pieces

pub returns-clause-roots : goal.returns-clause-roots
returns-clause-roots c = lends-rooted

pub returns-clause-output : goal.returns-clause-output
returns-clause-output c = lends-longer

pub returns-clause-judged : goal.returns-clause-judged
returns-clause-judged c = lends-judged
