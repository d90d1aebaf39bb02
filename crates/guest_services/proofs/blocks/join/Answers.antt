use Rattle.std.specs.Prelude.{length}
use Rattle.std.proofs.Common.{◌∙◌, ap, arith, ◌+◌, refl, set}
use Rattle.guest_services.specs.Blocks.{free_block}
use Rattle.guest_services.proofs.BlockLists.{joined_last, joined_kept, joined_two, two_sizes}
use Rattle.guest_services.proofs.blocks.join.Goals as goal
use Rattle.guest_services.proofs.blocks.join.Goals.{then-b-via-then-b, then-b-via-else-b+then-next}

pub returns-then-i-as_slice-clause-items : goal.returns-then-i-as_slice-clause-items
returns-then-i-as_slice-clause-items c =
    let count = ap length c.as_slice.ensures.value in
    let last = c.if-i-as_slice.true in
    joined_last c.args.blocks.now.items c.args.i (omega (arith, count, last))

pub returns-then-b-clause-items : goal.returns-then-b-clause-items
returns-then-b-clause-items c =
    let count = ap length c.as_slice.ensures.value in
    let more = c.if-i-as_slice.false in
    joined_kept c.args.blocks.now.items c.args.i c.index-b.result.now c.index-next.result.now (omega (arith, count, more)) c.index-b.ensures c.index-next.ensures
    (elim c.then-b.branch [
      | then-b-via-then-b w ↦ rw w.if-b.true refl
      | then-b-via-else-b+then-next w ↦ rw (w.if-b.false, w.if-next.true) refl
    ])

pub overflow_add-b : goal.overflow_add-b
overflow_add-b c =
    let count = ap length c.as_slice.ensures.value in
    let more = c.if-i-as_slice.false in
    let sum = two_sizes c.args.blocks.now.items c.args.i c.index-b.result.now c.index-next.result.now (omega (arith, count, more)) c.index-b.ensures c.index-next.ensures in
    let small = c.requires.small in
    omega (arith, sum, small)

pub returns-clause-items : goal.returns-clause-items
returns-clause-items c =
    let count = ap length c.as_slice.ensures.value in
    let more = c.if-i-as_slice.false in
    ap (λ xs. set xs c.args.i (free_block c.index-b.result.now.at (c.index-b.result.now.size + c.index-next.result.now.size))) c.remove.ensures.items
    ∙ joined_two c.args.blocks.now.items c.args.i c.index-b.result.now c.index-next.result.now (omega (arith, count, more)) c.index-b.ensures c.index-next.ensures c.if-b.false c.if-next.false
