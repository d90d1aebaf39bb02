use Rattle.linked_code.proofs.Linker.{fields_filled}
use Rattle.linked_code.proofs.laws.the_linker_fills_fields_so.Goals as goal

pub returns : goal.returns
returns c os link object o bytes fields instrumented = fields_filled os link object o instrumented bytes fields
