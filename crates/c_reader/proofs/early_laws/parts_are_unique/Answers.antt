use Rattle.c_reader.proofs.Programs as programs
use Rattle.c_reader.proofs.early_laws.parts_are_unique.Goals as goal

pub returns : goal.returns
returns c = programs.parts_are_unique
