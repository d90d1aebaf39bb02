use Rattle.c_types.specs.Layouts.{CanStand}
use Rattle.c_check.specs.declared.checked.LocalVariable.{LocalVariable}
use Rattle.source_rows.proofs.Showing.{at-place}
use Rattle.source_rows.proofs.says.show_locals.Goals as goal

pub show_type-requires : goal.show_type-requires
show_type-requires c = (at-place (CanStand c.args.table.now) (λ (l : LocalVariable). l.kind) c.args.locals.now c.locals.local-index _ c.locals-test.true c.requires).0
