use Rattle.obj_file.specs.Object.{parts_of}
use Rattle.obj_file.proofs.ObjectLaws.{names_short, sigs_short}
use Rattle.obj_file.proofs.object_writer.write_object.Goals as goal

pub put_symbols-requires-clause-names : goal.put_symbols-requires-clause-names
put_symbols-requires-clause-names c = rw c.as_slice-3.ensures (names_short (parts_of c.args.o.now) c.args.o.now.symbols c.requires.symbols)

pub put_symbols-requires-clause-sigs : goal.put_symbols-requires-clause-sigs
put_symbols-requires-clause-sigs c = rw c.as_slice-3.ensures (sigs_short (parts_of c.args.o.now) c.args.o.now.symbols c.requires.symbols)
