use Rattle.std.proofs.Common.{ℕ, sym, subst, Result}
use Rattle.mx_base.specs.Memory.{Bytes}
use Rattle.mx_base.specs.Walk.{walk}
use Rattle.paged_memory.specs.Paged.{bytes_of}
use Rattle.bound_tables.specs.declared.walks.Walk.{Walk}
use Rattle.bound_tables.specs.Entries.{place_of, entry_stored, WritesEntry}
use Rattle.bound_tables.proofs.DirectoryLemmas.{stands, stands_at_place}
use Rattle.bound_tables.proofs.EntryLemmas.{stores_nothing, stored_there}
use Rattle.bound_tables.proofs.entries.store_entry.Goals as goal

pub returns-in-Ok-clause-answer : goal.returns-in-Ok-clause-answer
returns-in-Ok-clause-answer c =
    let there = stands (walk (bytes_of c.args.m.now) c.args.cfg c.args.la) c.in-Ok.at c.in-Ok.ensures in
    let place = stands_at_place (bytes_of c.args.m.now) c.args.cfg c.args.la c.in-Ok.at there in
    let stored = stored_there (bytes_of c.args.m.now) c.args.cfg c.args.la c.in-Ok.at c.args.e there in
    subst (λ (at : ℕ). WritesEntry at (entry_stored (bytes_of c.args.m.now) c.args.cfg c.args.la c.args.e) c.args.m.now c.write_entry.new.m c.write_entry.result) (sym place)
    (subst (λ (want : Result Bytes Walk). WritesEntry c.in-Ok.at want c.args.m.now c.write_entry.new.m c.write_entry.result) (sym stored) c.write_entry.ensures.answer)

pub returns-in-Err-clause-answer : goal.returns-in-Err-clause-answer
returns-in-Err-clause-answer c =
    stores_nothing (bytes_of c.args.m.now) c.args.cfg c.args.la c.args.e c.in-Err.refusal (place_of (bytes_of c.args.m.now) c.args.cfg c.args.la) c.args.m.now c.args.m.now c.in-Err.ensures
