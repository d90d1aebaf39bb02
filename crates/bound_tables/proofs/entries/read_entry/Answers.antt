use Rattle.std.proofs.Common.{◌∙◌, ap, Ok}
use Rattle.paged_memory.specs.Paged.{bytes_of}
use Rattle.bound_tables.proofs.EntryLemmas.{read_words, read_done, read_refused}
use Rattle.bound_tables.proofs.entries.read_entry.Goals as goal

pub returns-in-Ok : goal.returns-in-Ok
returns-in-Ok c =
    ap Ok
    (read_words (bytes_of c.args.m.now) c.args.at c.read.new.buf c.word_at.result c.word_at-in-Ok.result c.word_at-in-Ok-2.result c.in-Ok.ensures.done c.word_at.ensures c.word_at-in-Ok.ensures c.word_at-in-Ok-2.ensures)
    ∙ read_done (bytes_of c.args.m.now) c.args.at c.in-Ok.ensures.answer

pub returns-in-Err : goal.returns-in-Err
returns-in-Err c = read_refused (bytes_of c.args.m.now) c.args.at c.in-Err.stop c.in-Err.ensures.answer
