use Rattle.narrowing.proofs.Within.{member-within, member-narrowed}
use Rattle.narrowing.proofs.laws.members_stay_within.Goals as goal

pub returns-clause-within : goal.returns-clause-within
returns-clause-within c = member-within

pub returns-clause-narrowed : goal.returns-clause-narrowed
returns-clause-narrowed c = member-narrowed
