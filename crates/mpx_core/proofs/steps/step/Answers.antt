use Rattle.std.proofs.Common.{◌∙◌}
use Rattle.std.specs.Prelude.{slice_index, Ok}
use Rattle.mpx_core.specs.Steps.{seen}
use Rattle.mpx_core.proofs.Doing.{sets}
use Rattle.mpx_core.proofs.Rows as rows
use Rattle.mpx_core.proofs.steps.step.Goals as goal

pub returns-in-Bndmk-clause-row : goal.returns-in-Bndmk-clause-row
returns-in-Bndmk-clause-row c s =
    rows.rowed s (slice_index c.args.regs.now) c.args.next c.args.b.now c.set_register.new.b c.args.m.now c.args.m.now c.args.i.now _ _ (Ok tt) c.in-Bndmk.is
    (rows.row-Bndmk (seen s (slice_index c.args.regs.now) c.args.b.now) c.args.next c.in-Bndmk.k c.in-Bndmk.at)
    (sets s (slice_index c.args.regs.now) c.args.next c.args.b.now c.set_register.new.b c.args.m.now c.in-Bndmk.k _ _ c.set_register.ensures.bounds c.set_register.ensures.cfg c.set_register.ensures.status
    (rows.made c.base_of-lb.result c.address_of-ub.result _ _ c.base_of-lb.ensures c.address_of-ub.ensures c.address_of-ub.type_inv))

pub returns-in-Bndcl-clause-row : goal.returns-in-Bndcl-clause-row
returns-in-Bndcl-clause-row c s =
    let value = c.operand_value-value.ensures ∙ rows.value_of s (slice_index c.args.regs.now) c.args.next c.args.b.now c.in-Bndcl.rm in
    rows.rowed s (slice_index c.args.regs.now) c.args.next c.args.b.now c.check.new.b c.args.m.now c.args.m.now c.args.i.now _ _ c.check.result c.in-Bndcl.is
    (rows.row-Bndcl (seen s (slice_index c.args.regs.now) c.args.b.now) c.args.next c.in-Bndcl.k c.operand_value-value.result c.in-Bndcl.rm value)
    (c.check.ensures.row s (slice_index c.args.regs.now) c.args.next c.args.m.now)

pub returns-in-Bndcu-clause-row : goal.returns-in-Bndcu-clause-row
returns-in-Bndcu-clause-row c s =
    let value = c.operand_value-value-in-Bndcu.ensures ∙ rows.value_of s (slice_index c.args.regs.now) c.args.next c.args.b.now c.in-Bndcu.rm in
    rows.rowed s (slice_index c.args.regs.now) c.args.next c.args.b.now c.check-in-Bndcu.new.b c.args.m.now c.args.m.now c.args.i.now _ _ c.check-in-Bndcu.result c.in-Bndcu.is
    (rows.row-Bndcu (seen s (slice_index c.args.regs.now) c.args.b.now) c.args.next c.in-Bndcu.k c.operand_value-value-in-Bndcu.result c.in-Bndcu.rm value)
    (c.check-in-Bndcu.ensures.row s (slice_index c.args.regs.now) c.args.next c.args.m.now)

pub returns-in-Bndcn-clause-row : goal.returns-in-Bndcn-clause-row
returns-in-Bndcn-clause-row c s =
    let value = c.operand_value-value-in-Bndcn.ensures ∙ rows.value_of s (slice_index c.args.regs.now) c.args.next c.args.b.now c.in-Bndcn.rm in
    rows.rowed s (slice_index c.args.regs.now) c.args.next c.args.b.now c.check-in-Bndcn.new.b c.args.m.now c.args.m.now c.args.i.now _ _ c.check-in-Bndcn.result c.in-Bndcn.is
    (rows.row-Bndcn (seen s (slice_index c.args.regs.now) c.args.b.now) c.args.next c.in-Bndcn.k c.operand_value-value-in-Bndcn.result c.held_word.result c.in-Bndcn.rm value c.held_word.ensures)
    (c.check-in-Bndcn.ensures.row s (slice_index c.args.regs.now) c.args.next c.args.m.now)

pub returns-in-BndmovTo-clause-row : goal.returns-in-BndmovTo-clause-row
returns-in-BndmovTo-clause-row c s =
    rows.rowed s (slice_index c.args.regs.now) c.args.next c.args.b.now c.args.b.now c.args.m.now c.store_bounds.new.m c.args.i.now _ _ c.store_bounds.result c.in-BndmovTo.is
    (rows.row-BndmovTo (seen s (slice_index c.args.regs.now) c.args.b.now) c.args.next c.in-BndmovTo.k c.address_of.result c.in-BndmovTo.at c.address_of.ensures)
    (c.store_bounds.ensures.row s (slice_index c.args.regs.now) c.args.next)

pub returns-in-BndmovFrom-clause-row : goal.returns-in-BndmovFrom-clause-row
returns-in-BndmovFrom-clause-row c s =
    rows.rowed s (slice_index c.args.regs.now) c.args.next c.args.b.now c.move_from.new.b c.args.m.now c.args.m.now c.args.i.now _ _ c.move_from.result c.in-BndmovFrom.is
    (rows.row-BndmovFrom (seen s (slice_index c.args.regs.now) c.args.b.now) c.args.next c.in-BndmovFrom.k c.in-BndmovFrom.rm)
    (c.move_from.ensures.row s)

pub returns-in-Bndldx-clause-row : goal.returns-in-Bndldx-clause-row
returns-in-Bndldx-clause-row c s =
    rows.rowed s (slice_index c.args.regs.now) c.args.next c.args.b.now c.load_from_table.new.b c.args.m.now c.args.m.now c.args.i.now _ _ c.load_from_table.result c.in-Bndldx.is
    (rows.row-Bndldx (seen s (slice_index c.args.regs.now) c.args.b.now) c.args.next c.in-Bndldx.k c.pointer_of-la.result c.pointer_value.result c.in-Bndldx.at c.pointer_of-la.ensures c.pointer_value.ensures)
    (c.load_from_table.ensures.row s (slice_index c.args.regs.now) c.args.next)

pub returns-in-Bndstx-clause-row : goal.returns-in-Bndstx-clause-row
returns-in-Bndstx-clause-row c s =
    rows.rowed s (slice_index c.args.regs.now) c.args.next c.args.b.now c.store_to_table.new.b c.args.m.now c.store_to_table.new.m c.args.i.now _ _ c.store_to_table.result c.in-Bndstx.is
    (rows.row-Bndstx (seen s (slice_index c.args.regs.now) c.args.b.now) c.args.next c.in-Bndstx.k c.pointer_of-la-in-Bndstx.result c.pointer_value-in-Bndstx.result c.in-Bndstx.at c.pointer_of-la-in-Bndstx.ensures c.pointer_value-in-Bndstx.ensures)
    (c.store_to_table.ensures.row s (slice_index c.args.regs.now) c.args.next)
