use Rattle.disasm.proofs.Lines.{one_listing}
use Rattle.disasm.proofs.laws.code_has_one_listing.Goals as goal

pub returns : goal.returns
returns c = one_listing
