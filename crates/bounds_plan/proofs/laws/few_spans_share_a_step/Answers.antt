use Rattle.bounds_plan.proofs.Spans.{assignable}
use Rattle.bounds_plan.proofs.laws.few_spans_share_a_step.Goals as goal

pub returns : goal.returns
returns c = assignable
