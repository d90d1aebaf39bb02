use Rattle.obj_file.proofs.store_laws.exact_readers_read_valid_instructions.Goals as goal

pub returns : goal.returns
returns c reads h bytes i size small is = ((h.whole bytes i size small).0 is).1.valid
