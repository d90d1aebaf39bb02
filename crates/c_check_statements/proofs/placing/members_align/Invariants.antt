use Rattle.std.proofs.Common.{◌≡◌, drop}
use Rattle.c_check_statements.specs.Placing.{members_align}
use Rattle.c_check_statements.specs.Structs.{kinds_in}
use Rattle.c_check_statements.proofs.placing.members_align.Given as goal

abbrev pub invariant-members : goal.invariant-members
invariant-members l = members_align l.structs 1 (kinds_in l.members) ≡ members_align l.structs l.align (kinds_in (drop l.member-index l.members))
