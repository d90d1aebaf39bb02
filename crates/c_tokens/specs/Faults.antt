-- The faults of flawed pieces.
use Rattle.mx_base.specs.declared.places.Place.{Place}
use Rattle.c_tokens.specs.declared.fault.Flaw.{Flaw}
use Rattle.c_tokens.specs.declared.fault.Flaw.TheVariants as f
use Rattle.c_tokens.specs.declared.fault.TokenFault.{TokenFault}
use Rattle.c_tokens.specs.declared.fault.TokenFault.TheVariants.{BadByte, BadNumber, LongName, OpenText}

abbrev pub fault_at : Flaw → Place → TokenFault
fault_at f.BadByte place = BadByte place
fault_at f.BadNumber place = BadNumber place
fault_at f.LongName place = LongName place
fault_at f.OpenText place = OpenText place
