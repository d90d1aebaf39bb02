use Rattle.mx_base.proofs.RegionsLemmas.{open_readable, open_writable}
use Rattle.mx_base.proofs.laws.open_addresses_are_accessible_and_not_sealed.Goals as goal

pub returns-clause-read : goal.returns-clause-read
returns-clause-read c = open_readable

pub returns-clause-write : goal.returns-clause-write
returns-clause-write c = open_writable
