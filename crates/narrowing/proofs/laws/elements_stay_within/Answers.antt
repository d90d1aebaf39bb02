use Rattle.narrowing.proofs.Within.{element-within, element-narrowed}
use Rattle.narrowing.proofs.laws.elements_stay_within.Goals as goal

pub returns-clause-within : goal.returns-clause-within
returns-clause-within c = element-within

pub returns-clause-narrowed : goal.returns-clause-narrowed
returns-clause-narrowed c = element-narrowed
