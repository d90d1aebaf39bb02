use Rattle.asked_steps.proofs.Serving.{serving}
use Rattle.asked_steps.proofs.laws.assigned_homes_serve.Goals as goal

pub returns : goal.returns
returns c = λ f h p spare are some short. serving f h p spare are (c.assigned_homes_are_had.ensures f h _ p spare.has are) some short
