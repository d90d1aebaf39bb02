use Rattle.std.proofs.Common.{◌≡◌, ◌≤◌, length}
use Rattle.std.specs.List.{All}
use Rattle.c_types.specs.Types.{IsOpen}
use Rattle.c_types.specs.Layouts.{CanStand}
use Rattle.c_tests.proofs.types.of_integers.Given as goal

abbrev pub invariant-loop-kind : goal.invariant-loop-kind
invariant-loop-kind l =
    All (CanStand l.table) l.members.items
    × IsOpen l.table l.number
    × (length l.table.shapes ≤ l.kind-index)
    × (length l.members.items ≡ l.kind-index)
