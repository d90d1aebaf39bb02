use Rattle.c_types.proofs.LawLemmas.{members-apart, members-at-multiples}
use Rattle.c_types.proofs.laws.members_stand_in_order.Goals as goal

pub returns-clause-apart : goal.returns-clause-apart
returns-clause-apart c = members-apart

pub returns-clause-aligned : goal.returns-clause-aligned
returns-clause-aligned c = members-at-multiples
