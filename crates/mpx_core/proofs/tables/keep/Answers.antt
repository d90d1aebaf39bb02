use Rattle.std.proofs.Common.{◌∙◌, sym}
use Rattle.paged_memory.specs.Paged.{bytes_of}
use Rattle.bound_tables.specs.Entries.{place_of}
use Rattle.mpx_core.specs.Registers.{held_bounds}
use Rattle.paged_memory.specs.Framed.{framed_of}
use Rattle.mpx_core.specs.Steps.{walked_keep}
use Rattle.mpx_core.proofs.Doing.{keep_written}
use Rattle.mpx_core.proofs.Low.{stored_low}
use Rattle.mpx_core.proofs.tables.keep.Goals as goal

pub returns-clause-answer : goal.returns-clause-answer
returns-clause-answer c =
    (λ i. walked_keep c.args.b.now.cfg (framed_of c.args.m.now) c.args.la c.args.value (held_bounds (sym c.word_of-lb.ensures i) (sym c.word_of-held.ensures i)))
    ∙ keep_written c.args.b.now.cfg c.args.la c.args.value c.word_of-lb.result c.word_of-held.result c.args.m.now c.store_entry.new.m c.store_entry.result c.word_of-held.type_inv c.store_entry.ensures.answer

pub returns-clause-low : goal.returns-clause-low
returns-clause-low c =
    stored_low (bytes_of c.args.m.now) c.args.b.now.cfg c.args.la (place_of (bytes_of c.args.m.now) c.args.b.now.cfg c.args.la)
    record { lb = c.word_of-lb.result; held = c.word_of-held.result; value = c.args.value } c.args.m.now c.store_entry.new.m c.store_entry.result c.requires.configured c.store_entry.ensures.answer
