use Rattle.paged_memory.specs.Paged.{bytes_of}
use Rattle.mpx_core.proofs.Doing.{matched, unmatched, loads_bounds, load_stops}
use Rattle.mpx_core.proofs.Low.{loaded_low}
use Rattle.mpx_core.proofs.tables.load_from_table.Goals as goal

pub refuse-requires : goal.refuse-requires
refuse-requires c = loaded_low (bytes_of c.args.m.now) c.args.b.now.cfg c.args.la c.in-Err.refusal c.requires.configured c.in-Err.ensures

pub returns-then-e-value-clause-row : goal.returns-then-e-value-clause-row
returns-then-e-value-clause-row c s regs next =
    loads_bounds s regs next c.args.b.now c.set_register.new.b c.args.m.now c.args.k c.args.la c.args.value c.in-Ok.e.lb c.in-Ok.e.held c.in-Ok.e c.in-Ok.ensures (matched c.args.value c.in-Ok.e c.if-e-value.true)
    c.set_register.ensures.bounds c.set_register.ensures.cfg c.set_register.ensures.status

pub returns-else-e-value-clause-row : goal.returns-else-e-value-clause-row
returns-else-e-value-clause-row c s regs next =
    loads_bounds s regs next c.args.b.now c.set_register-else-e-value.new.b c.args.m.now c.args.k c.args.la c.args.value 0 0 c.in-Ok.e c.in-Ok.ensures (unmatched c.args.value c.in-Ok.e c.if-e-value.false)
    c.set_register-else-e-value.ensures.bounds c.set_register-else-e-value.ensures.cfg c.set_register-else-e-value.ensures.status

pub returns-in-Err-clause-row : goal.returns-in-Err-clause-row
returns-in-Err-clause-row c s regs next =
    load_stops s regs next c.args.b.now c.refuse.new.b c.args.m.now c.args.la c.args.value _ c.in-Err.refusal c.refuse.result c.in-Err.ensures c.refuse.ensures.after c.refuse.ensures.stop
