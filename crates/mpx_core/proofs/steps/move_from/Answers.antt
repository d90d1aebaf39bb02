use Rattle.std.proofs.Common.{refl}
use Rattle.std.specs.Prelude.{slice_index, Ok}
use Rattle.mpx_core.specs.Registers.{bounds_of}
use Rattle.mpx_core.specs.Steps.{seen}
use Rattle.mpx_core.proofs.Doing.{sets}
use Rattle.mpx_core.proofs.Rows as rows
use Rattle.mpx_core.proofs.steps.move_from.Goals as goal

pub returns-in-Reg-clause-row : goal.returns-in-Reg-clause-row
returns-in-Reg-clause-row c s =
    rows.taken_from s (slice_index c.args.regs.now) c.args.next c.args.b.now c.set_register.new.b c.args.m.now c.args.m.now c.args.k c.args.rm _ _ (Ok tt) c.in-Reg.is refl
    (sets s (slice_index c.args.regs.now) c.args.next c.args.b.now c.set_register.new.b c.args.m.now c.args.k (bounds_of c.args.b.now c.in-Reg.r.0) (bounds_of c.args.b.now c.in-Reg.r.0)
    c.set_register.ensures.bounds c.set_register.ensures.cfg c.set_register.ensures.status refl)

pub returns-in-Mem-clause-row : goal.returns-in-Mem-clause-row
returns-in-Mem-clause-row c s =
    rows.taken_from s (slice_index c.args.regs.now) c.args.next c.args.b.now c.load_bounds.new.b c.args.m.now c.args.m.now c.args.k c.args.rm _ _ c.load_bounds.result c.in-Mem.is
    (rows.taken-Mem (seen s (slice_index c.args.regs.now) c.args.b.now) c.args.next c.args.k c.address_of.result c.in-Mem.at c.address_of.ensures)
    (c.load_bounds.ensures.row s (slice_index c.args.regs.now) c.args.next)
