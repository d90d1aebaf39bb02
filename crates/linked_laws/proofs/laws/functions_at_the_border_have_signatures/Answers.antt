use Rattle.linked_laws.proofs.Signed.{functions_signed, stubs_signed}
use Rattle.linked_laws.proofs.laws.functions_at_the_border_have_signatures.Goals as goal

pub returns-clause-own : goal.returns-clause-own
returns-clause-own c = functions_signed

pub returns-clause-called : goal.returns-clause-called
returns-clause-called c = λ os v linked. stubs_signed os v linked
