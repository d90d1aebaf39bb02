use Rattle.std.proofs.Common.{◌∙◌, sym}
use Rattle.mx_base.specs.Walk.{walk}
use Rattle.paged_memory.specs.Paged.{bytes_of}
use Rattle.bound_tables.proofs.DirectoryLemmas.{stands}
use Rattle.bound_tables.proofs.EntryLemmas.{loads_nothing, loaded_there}
use Rattle.bound_tables.proofs.entries.load_entry.Goals as goal

pub returns-in-Ok : goal.returns-in-Ok
returns-in-Ok c =
    let there = stands (walk (bytes_of c.args.m.now) c.args.cfg c.args.la) c.in-Ok.at c.in-Ok.ensures in
    c.read_entry.ensures ∙ sym (loaded_there (bytes_of c.args.m.now) c.args.cfg c.args.la c.in-Ok.at there)

pub returns-in-Err : goal.returns-in-Err
returns-in-Err c = loads_nothing (bytes_of c.args.m.now) c.args.cfg c.args.la c.in-Err.refusal c.in-Err.ensures
