use Rattle.mx_base.proofs.MemoryLemmas.{list_at-with_list, with_list_below, with_list_above}
use Rattle.mx_base.proofs.laws.bytes_are_read_back.Goals as goal

pub returns-clause-back : goal.returns-clause-back
returns-clause-back c bytes a m = list_at-with_list bytes m a

pub returns-clause-below : goal.returns-clause-below
returns-clause-below c bytes a x m = with_list_below bytes m a x

pub returns-clause-above : goal.returns-clause-above
returns-clause-above c bytes a x m = with_list_above bytes m a x
