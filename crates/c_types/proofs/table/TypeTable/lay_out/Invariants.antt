use Rattle.std.proofs.Common.{◌*◌, ◌≤◌, map, drop}
use Rattle.c_types.specs.Layouts.{layout_at}
use Rattle.c_types.proofs.Laying.{IsLaying}
use Rattle.c_types.proofs.table.TypeTable.lay_out.Given as goal

abbrev pub invariant-loop-member : goal.invariant-loop-member
invariant-loop-member l =
    IsLaying l.offsets.items l.end l.align (map (layout_at l.self) (drop l.member-index l.members)) (map (layout_at l.self) l.members)
    × (l.end ≤ 16777223 * l.member-index)
    × (1 ≤ l.align)
    × (l.align ≤ 8)
