use Rattle.mx_base.proofs.GuestLemmas.{guest_starts, served_fits}
use Rattle.mx_base.proofs.laws.services_keep_the_guest_fit.Goals as goal

pub returns-clause-begins : goal.returns-clause-begins
returns-clause-begins r c = guest_starts

pub returns-clause-stays : goal.returns-clause-stays
returns-clause-stays r c service m refused rdi rsi rdx g h fits = served_fits g h service m refused rdi rsi rdx fits
