use Rattle.linked_code.proofs.Fields.{few_fields}
use Rattle.linked_code.proofs.laws.steps_have_few_fix_ups.Goals as goal

pub returns : goal.returns
returns c = few_fields
