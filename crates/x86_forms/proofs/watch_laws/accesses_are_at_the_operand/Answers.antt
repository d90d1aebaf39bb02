use Rattle.x86_forms.proofs.WatchOperand.{accesses-at_operand}
use Rattle.x86_forms.proofs.watch_laws.accesses_are_at_the_operand.Goals as goal

pub returns : goal.returns
returns c = accesses-at_operand
