use Rattle.disasm.specs.Written.{written_of}
use Rattle.listing_laws.proofs.Lines.{form_read}
use Rattle.listing_laws.proofs.Forms.{form}
use Rattle.listing_laws.proofs.laws.valid_instructions_are_lines.Goals as goal

pub returns : goal.returns
returns c i valid = form_read i (written_of i) valid (form i valid)
