use Rattle.mx_base.proofs.MemoryLemmas.{number_at-with_number, with_number_below, with_number_above}
use Rattle.mx_base.proofs.laws.numbers_are_read_back.Goals as goal

pub returns-clause-back : goal.returns-clause-back
returns-clause-back c n a v m = number_at-with_number n m a v

pub returns-clause-below : goal.returns-clause-below
returns-clause-below c n a v x m = with_number_below n m a v x

pub returns-clause-above : goal.returns-clause-above
returns-clause-above c n a v x m = with_number_above n m a v x
