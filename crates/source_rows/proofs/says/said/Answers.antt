use Rattle.std.proofs.Common.{List, subst, sym}
use Rattle.std.specs.List.{All}
use Rattle.c_types.specs.Types.{IsIn}
use Rattle.c_types.specs.Layouts.{CanStand}
use Rattle.c_check.specs.declared.checked.GlobalVariable.{GlobalVariable}
use Rattle.c_check.specs.Accepted.{after}
use Rattle.c_check.specs.Checked.{global_kinds}
use Rattle.source_rows.specs.Shown.{AreShown}
use Rattle.source_rows.proofs.Showing.{bodies-shown}
use Rattle.source_rows.proofs.says.said.Goals as goal

pub show_types-requires : goal.show_types-requires
show_types-requires c = subst (All (IsIn c.in-Ok.checked.types)) (sym c.as_slice.ensures) c.in-Ok.ensures.accepted.1.kinds.in_table

pub show_types-requires-2 : goal.show_types-requires-2
show_types-requires-2 c = subst (All (IsIn c.in-Ok.checked.types)) (sym c.as_slice-3.ensures) c.in-Ok.ensures.accepted.1.declared.in_table

pub show_globals-requires : goal.show_globals-requires
show_globals-requires c =
    subst (λ (gs : List GlobalVariable). All (CanStand c.in-Ok.checked.types) (global_kinds gs)) (sym c.as_slice-4.ensures) c.in-Ok.ensures.accepted.1.variables.can_stand

pub show_bodies-requires : goal.show_bodies-requires
show_bodies-requires c =
    subst (AreShown c.in-Ok.checked.types) (sym c.as_slice-5.ensures)
    (bodies-shown c.in-Ok.checked.types c.in-Ok.checked.bodies (after c.args.tree.now).bodies c.in-Ok.ensures.accepted.1.bodies)
