use Rattle.c_accepted.proofs.Apart.{texts_apart}
use Rattle.c_accepted.proofs.laws.plans_keep_literals_apart.Goals as goal

pub returns : goal.returns
returns c = texts_apart
