use Rattle.obj_linker.proofs.Filing.{registers_of}
use Rattle.obj_linker.proofs.gating.function_sig.Goals as goal

pub returns-clause-registers : goal.returns-clause-registers
returns-clause-registers c = registers_of c.args.text.now c.requires
