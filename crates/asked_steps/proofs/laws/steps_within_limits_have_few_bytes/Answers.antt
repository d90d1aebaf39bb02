use Rattle.asked_steps.proofs.Sizes.{steps_short, few_places}
use Rattle.asked_steps.proofs.laws.steps_within_limits_have_few_bytes.Goals as goal

pub returns-clause-bytes : goal.returns-clause-bytes
returns-clause-bytes c = λ p label_at entry_at at steps valid located pointer returns takes limited. steps_short p located pointer returns takes label_at entry_at at steps valid limited

pub returns-clause-places : goal.returns-clause-places
returns-clause-places c = few_places
