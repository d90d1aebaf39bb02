use Rattle.c_reader.proofs.Programs.{found_all}
use Rattle.c_reader.proofs.early_reader.read_early.Goals as goal

pub returns-clause-only : goal.returns-clause-only
returns-clause-only c = found_all c.args.bytes.now c.whole.result _ (rw c.new.ensures at c.whole.ensures)
