use Rattle.std.proofs.Common.{take}
use Rattle.c_check.proofs.TableLists.{Listed}
use Rattle.c_check.proofs.numbers.number_types.Given as goal

abbrev pub invariant-kinds : goal.invariant-kinds
invariant-kinds l = Listed l.fn.table l.table l.ids (take l.kind-index l.kinds) l.kind-index
