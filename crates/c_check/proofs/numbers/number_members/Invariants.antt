use Rattle.std.proofs.Common.{take}
use Rattle.c_check_statements.specs.Structs.{kinds_in}
use Rattle.c_check.proofs.TableLists.{Listed}
use Rattle.c_check.proofs.numbers.number_members.Given as goal

abbrev pub invariant-members : goal.invariant-members
invariant-members l = Listed l.fn.table l.table l.ids (kinds_in (take l.member-index l.members)) l.member-index
