use Rattle.std.proofs.Common.{Ok, Err}
use Rattle.bound_tables.proofs.EntryLemmas.{writes_entry}
use Rattle.bound_tables.proofs.entries.write_entry.Goals as goal

pub returns-in-Ok-clause-answer : goal.returns-in-Ok-clause-answer
returns-in-Ok-clause-answer c = writes_entry c.args.at c.args.e c.three_words.result c.args.m.now c.write.new.self (Ok c.in-Ok.field-0) c.three_words.ensures c.in-Ok.ensures.answer

pub returns-in-Err-clause-answer : goal.returns-in-Err-clause-answer
returns-in-Err-clause-answer c = writes_entry c.args.at c.args.e c.three_words.result c.args.m.now c.write.new.self (Err c.in-Err.stop) c.three_words.ensures c.in-Err.ensures.answer
