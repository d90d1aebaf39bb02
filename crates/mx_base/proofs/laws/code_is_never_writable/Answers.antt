use Rattle.mx_base.proofs.RegionsLemmas.{code_not_writable}
use Rattle.mx_base.proofs.laws.code_is_never_writable.Goals as goal

pub returns : goal.returns
returns c = code_not_writable
