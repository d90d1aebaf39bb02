use Rattle.mx_base.proofs.StoreLemmas.{loaded-last}
use Rattle.mx_base.proofs.laws.loads_answer_the_last_keep.Goals as goal

pub returns : goal.returns
returns c = loaded-last
