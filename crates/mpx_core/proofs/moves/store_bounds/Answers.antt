use Rattle.std.proofs.Common.{◌<◌, ◌^◌, ◌∙◌, ◌++◌, arith}
use Rattle.std.specs.Prelude.{slice_index}
use Rattle.std.specs.Int.{w64, to_le_bytes}
use Rattle.mpx_core.proofs.Doing.{writes_bounds, write_stops}
use Rattle.mpx_core.proofs.moves.store_bounds.Goals as goal

pub returns-in-Ok-clause-row : goal.returns-in-Ok-clause-row
returns-in-Ok-clause-row c s regs next =
    let low : slice_index c.args.b.now.lb c.args.k < 2 ^ 64 = omega (arith, c.word_of-lb.type_inv, c.word_of-lb.ensures) in
    let high : slice_index c.args.b.now.held c.args.k < 2 ^ 64 = omega (arith, c.word_of-held.type_inv, c.word_of-held.ensures) in
    writes_bounds s regs next c.args.b.now c.args.m.now c.write.new.self c.args.at (slice_index c.args.b.now.lb c.args.k) (slice_index c.args.b.now.held c.args.k) c.two_words.result low high
    (c.two_words.ensures ∙ (λ i. to_le_bytes w64 (c.word_of-lb.ensures i) ++ to_le_bytes w64 (c.word_of-held.ensures i))) c.in-Ok.ensures.answer

pub returns-in-Err-clause-row : goal.returns-in-Err-clause-row
returns-in-Err-clause-row c s regs next =
    let low : slice_index c.args.b.now.lb c.args.k < 2 ^ 64 = omega (arith, c.word_of-lb.type_inv, c.word_of-lb.ensures) in
    let high : slice_index c.args.b.now.held c.args.k < 2 ^ 64 = omega (arith, c.word_of-held.type_inv, c.word_of-held.ensures) in
    write_stops s regs next c.args.b.now c.args.m.now c.write.new.self c.args.at (slice_index c.args.b.now.lb c.args.k) (slice_index c.args.b.now.held c.args.k) c.two_words.result _ c.in-Err.stop low high
    (c.two_words.ensures ∙ (λ i. to_le_bytes w64 (c.word_of-lb.ensures i) ++ to_le_bytes w64 (c.word_of-held.ensures i))) c.in-Err.ensures.answer c.in-Err.ensures.refused
