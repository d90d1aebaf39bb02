use Rattle.mpx_core.specs.Registers.{bounds_of}
use Rattle.mpx_core.proofs.Doing.{keeps_bounds, keep_stops}
use Rattle.mpx_core.proofs.tables.store_to_table.Goals as goal

pub returns-in-Ok-clause-row : goal.returns-in-Ok-clause-row
returns-in-Ok-clause-row c s regs next =
    keeps_bounds s regs next c.args.b.now c.args.m.now c.keep.new.m c.args.la c.args.value (bounds_of c.args.b.now c.args.k) c.in-Ok.ensures.answer

pub returns-in-Err-clause-row : goal.returns-in-Err-clause-row
returns-in-Err-clause-row c s regs next =
    keep_stops s regs next c.args.b.now c.refuse.new.b c.args.m.now c.keep.new.m c.args.la c.args.value (bounds_of c.args.b.now c.args.k) _ c.in-Err.refusal c.refuse.result c.in-Err.ensures.answer c.in-Err.ensures.refused
    c.refuse.ensures.after c.refuse.ensures.stop
