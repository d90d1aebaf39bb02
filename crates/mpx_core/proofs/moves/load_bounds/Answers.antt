use Rattle.std.proofs.Common.{◌∙◌, ap, ℕ, List}
use Rattle.std.specs.Prelude.{slice_range}
use Rattle.std.specs.Int.{w64, from_le_bytes}
use Rattle.paged_memory.specs.Paged.{bytes_of}
use Rattle.mpx_core.proofs.StoredBounds.{first_word, second_word}
use Rattle.mpx_core.proofs.Doing.{reads_bounds, read_stops}
use Rattle.mpx_core.proofs.moves.load_bounds.Goals as goal

pub returns-in-Ok-clause-row : goal.returns-in-Ok-clause-row
returns-in-Ok-clause-row c s regs next =
    let bytes = c.in-Ok.ensures.done in
    let first = c.word_at.ensures ∙ ap (λ (xs : List ℕ). from_le_bytes w64 (slice_range xs 0 8)) bytes ∙ first_word (bytes_of c.args.m.now) c.args.at in
    let second = c.word_at-in-Ok.ensures ∙ ap (λ (xs : List ℕ). from_le_bytes w64 (slice_range xs 8 16)) bytes ∙ second_word (bytes_of c.args.m.now) c.args.at in
    reads_bounds s regs next c.args.b.now c.set_register.new.b c.args.m.now c.args.k c.args.at c.word_at.result c.word_at-in-Ok.result c.in-Ok.ensures.answer first second c.word_at.type_inv c.word_at-in-Ok.type_inv
    c.set_register.ensures.bounds c.set_register.ensures.cfg c.set_register.ensures.status

pub returns-in-Err-clause-row : goal.returns-in-Err-clause-row
returns-in-Err-clause-row c s regs next = read_stops s regs next c.args.b.now c.args.m.now c.args.at _ c.in-Err.stop c.in-Err.ensures.answer
