use Rattle.paged_memory.specs.Paged.{bytes_of}
use Rattle.bound_tables.proofs.DirectoryLemmas.{entry_loads}
use Rattle.bound_tables.proofs.walks.entry_word.Goals as goal

pub unreachable-requires : goal.unreachable-requires
unreachable-requires c = let loads = entry_loads (bytes_of c.args.m.now) c.args.cfg c.args.la c.requires in cc

pub returns : goal.returns
returns c = let loads = entry_loads (bytes_of c.args.m.now) c.args.cfg c.args.la c.requires in cc
