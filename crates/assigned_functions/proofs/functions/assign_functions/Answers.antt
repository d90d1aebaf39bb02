use Rattle.assigned_functions.proofs.Assigning.{all_assigned}
use Rattle.assigned_functions.proofs.functions.assign_functions.Goals as goal

pub returns : goal.returns
returns c = all_assigned c.args.functions.now c.functions.all c.functions.f-index c.functions-test.false c.functions.invariant
