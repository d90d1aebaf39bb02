use Rattle.c_types.specs.Layouts.{CanStand}
use Rattle.c_check.specs.declared.checked.GlobalVariable.{GlobalVariable}
use Rattle.source_rows.proofs.Showing.{at-place}
use Rattle.source_rows.proofs.says.show_globals.Goals as goal

pub show_global-requires : goal.show_global-requires
show_global-requires c = at-place (CanStand c.args.table.now) (λ (g : GlobalVariable). g.kind) c.args.globals.now c.globals.global-index _ c.globals-test.true c.requires
