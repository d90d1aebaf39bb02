use Rattle.mx_base.proofs.RegionsLemmas.{sealed_not_readable, sealed_not_writable}
use Rattle.mx_base.proofs.laws.sealed_bytes_are_not_open.Goals as goal

pub returns-clause-read : goal.returns-clause-read
returns-clause-read c = sealed_not_readable

pub returns-clause-write : goal.returns-clause-write
returns-clause-write c = sealed_not_writable
