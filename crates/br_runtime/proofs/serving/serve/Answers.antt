use Rattle.std.proofs.Common.{◌∙◌, ap, subst, Result, Ok, Err, arith, ◌<◌}
use Rattle.mx_base.specs.BoundsStore.{most_tables}
use Rattle.paged_memory.specs.declared.stops.MemStop.{MemStop}
use Rattle.paged_memory.specs.Paged.{bytes_of}
use Rattle.br_runtime.specs.Serving.{named_entry}
use Rattle.br_runtime.proofs.Served.{AfterStore, served, no_table}
use Rattle.br_runtime.proofs.serving.serve.Goals as goal

pub returns-then-t-ge-MOST_TABLES-clause-answer : goal.returns-then-t-ge-MOST_TABLES-clause-answer
returns-then-t-ge-MOST_TABLES-clause-answer c = no_table (bytes_of c.args.m.now) (named_entry c.args.status) c.args.t.now.made c.if-t-ge-MOST_TABLES.true

pub unreachable-requires : goal.unreachable-requires
unreachable-requires c =
    let few : c.args.t.now.made < most_tables = omega (arith, c.if-t-ge-MOST_TABLES.false) in
    let after = served c.args.status c.args.t.now.made c.entry_of_next.result c.args.m.now c.store.new.self c.store.result c.requires.code few c.requires.entry c.entry_of_next.ensures c.store.ensures.answer in
    subst (λ (r : Result (Unit {0}) MemStop). AfterStore (named_entry c.args.status) c.args.t.now.made c.args.m.now c.store.new.self r)
    (c.in-Err-Unmapped.is ∙ ap Err c.in-Err-Unmapped.field-0-is) after

pub returns-in-Ok-clause-answer : goal.returns-in-Ok-clause-answer
returns-in-Ok-clause-answer c =
    let few : c.args.t.now.made < most_tables = omega (arith, c.if-t-ge-MOST_TABLES.false) in
    served c.args.status c.args.t.now.made c.entry_of_next.result c.args.m.now c.store.new.self (Ok c.in-Ok.field-0) c.requires.code few c.requires.entry c.entry_of_next.ensures c.in-Ok.ensures.answer

pub returns-in-Err-NoFrames-clause-answer : goal.returns-in-Err-NoFrames-clause-answer
returns-in-Err-NoFrames-clause-answer c =
    let few : c.args.t.now.made < most_tables = omega (arith, c.if-t-ge-MOST_TABLES.false) in
    let after = served c.args.status c.args.t.now.made c.entry_of_next.result c.args.m.now c.store.new.self c.store.result c.requires.code few c.requires.entry c.entry_of_next.ensures c.store.ensures.answer in
    subst (λ (r : Result (Unit {0}) MemStop). AfterStore (named_entry c.args.status) c.args.t.now.made c.args.m.now c.store.new.self r)
    (c.in-Err-NoFrames.is ∙ ap Err c.in-Err-NoFrames.field-0-is) after
