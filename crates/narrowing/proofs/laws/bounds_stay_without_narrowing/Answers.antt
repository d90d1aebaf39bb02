use Rattle.narrowing.proofs.Within.{member-stays, element-stays}
use Rattle.narrowing.proofs.laws.bounds_stay_without_narrowing.Goals as goal

pub returns-clause-members : goal.returns-clause-members
returns-clause-members c = member-stays

pub returns-clause-elements : goal.returns-clause-elements
returns-clause-elements c = element-stays
