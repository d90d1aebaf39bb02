use Rattle.std.proofs.Common.{refl}
use Rattle.mpx_probe.proofs.instructions.recode_line.Goals as goal

pub encode-requires : goal.encode-requires
encode-requires c = ((c.in-Ok-decode.ensures.found c.in-Ok-decode.instr c.in-Ok-decode.field-0-1).0 refl).spells.valid
