use Rattle.std.proofs.Common.{List, subst, sym}
use Rattle.std.specs.List.{All}
use Rattle.c_types.specs.Layouts.{CanStand}
use Rattle.c_check.specs.declared.checked.LocalVariable.{LocalVariable}
use Rattle.c_check.specs.Checked.{local_kinds}
use Rattle.c_check.proofs.TableLists.{at-next}
use Rattle.source_rows.specs.Shown.{IsShown}
use Rattle.source_rows.proofs.says.show_bodies.Goals as goal

pub show_locals-requires : goal.show_locals-requires
show_locals-requires c =
    subst (λ (ls : List LocalVariable). All (CanStand c.args.table.now) (local_kinds ls)) (sym c.as_slice.ensures)
    (at-next (IsShown c.args.table.now) c.args.bodies.now c.bodies.body-index c.body-item.result c.bodies-test.true c.body-item.is c.requires)
