use Rattle.step_code.proofs.Spanning.{homes_assigned}
use Rattle.step_code.proofs.laws.homes_by_spans_are_assigned.Goals as goal

pub returns : goal.returns
returns c = homes_assigned
