use Rattle.std.proofs.Common.{◌∙◌, ap, sym, subst, get_or, arith, length, ◌+◌, ◌<◌}
use Rattle.reg_assign.specs.declared.places.Board.{Board}
use Rattle.reg_assign.proofs.Giving.{Given, chosen_fits, given_more, skipped, kind_is, kind_differs}
use Rattle.reg_assign.proofs.places.place_values.Goals as goal

pub give-requires-clause-place : goal.give-requires-clause-place
give-requires-clause-place c = let k = c.loop-value.value-index in let order = c.as_slice-value-items in
    let short : k < length c.args.lives.now.order = let e = ap length order.ensures in let t = c.loop-value-test.true in omega (arith, c.loop-value.auto) in
    chosen_fits c.args.fun.now c.args.lives.now c.args.bounds c.args.registers c.args.wishes.now c.requires.assignable c.requires.spans c.requires.wishes c.requires.ahead k short c.loop-value.board.until c.loop-value.board.places c.loop-value.invariant
    (get_or order.result.now k 0) (ap (λ xs. get_or xs k 0) order.ensures) (sym c.is_bounds.ensures ∙ kind_is _ _ c.if-is_bounds-bounds.false)
    c.as_slice.result.now c.args.counts.now c.range_of-range.result c.is_quiet-quiet.result c.wish_of-least.result c.pick-place.result c.wish_of-least.ensures c.as_slice.ensures c.requires.counts c.range_of-range.ensures c.is_quiet-quiet.ensures c.pick-place.ensures

pub loop-value-preserved-then-is_bounds-bounds : goal.loop-value-preserved-then-is_bounds-bounds
loop-value-preserved-then-is_bounds-bounds c = let k = c.loop-value.value-index in let order = c.as_slice-value-items in
    let short : k < length c.args.lives.now.order = let e = ap length order.ensures in let t = c.loop-value-test.true in omega (arith, c.loop-value.auto) in
    skipped c.args.fun.now c.args.lives.now c.args.bounds c.args.registers c.args.wishes.now c.requires.assignable c.requires.spans c.requires.wishes c.requires.ahead k short c.loop-value.board.until c.loop-value.board.places c.loop-value.invariant
    (get_or order.result.now k 0) (ap (λ xs. get_or xs k 0) order.ensures) (λ e. kind_differs _ _ c.if-is_bounds-bounds.true (c.is_bounds.ensures ∙ e))

pub loop-value-preserved : goal.loop-value-preserved
loop-value-preserved c = let k = c.loop-value.value-index in let order = c.as_slice-value-items in
    let short : k < length c.args.lives.now.order = let e = ap length order.ensures in let t = c.loop-value-test.true in omega (arith, c.loop-value.auto) in
    subst (λ (b : Board). Given c.args.fun.now c.args.lives.now c.args.bounds c.args.registers c.args.wishes.now (k + 1) b.until b.places) (sym c.give.ensures)
    (given_more c.args.fun.now c.args.lives.now c.args.bounds c.args.registers c.args.wishes.now c.requires.assignable c.requires.spans c.requires.wishes c.requires.ahead k short c.loop-value.board.until c.loop-value.board.places c.loop-value.invariant
    (get_or order.result.now k 0) (ap (λ xs. get_or xs k 0) order.ensures) (sym c.is_bounds.ensures ∙ kind_is _ _ c.if-is_bounds-bounds.false)
    c.as_slice.result.now c.args.counts.now c.range_of-range.result c.is_quiet-quiet.result c.wish_of-least.result c.pick-place.result c.wish_of-least.ensures c.as_slice.ensures c.requires.counts c.range_of-range.ensures c.is_quiet-quiet.ensures c.pick-place.ensures)
