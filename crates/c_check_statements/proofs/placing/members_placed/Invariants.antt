use Rattle.std.proofs.Common.{◌≡◌, drop}
use Rattle.c_check_rules.specs.Sizes.{limit}
use Rattle.c_check_statements.specs.Placing.{members_placed, from_start}
use Rattle.c_check_statements.specs.Structs.{kinds_in}
use Rattle.c_check_statements.proofs.placing.members_placed.Given as goal

abbrev pub invariant-members : goal.invariant-members
invariant-members l = members_placed l.structs limit from_start (kinds_in l.members) ≡ members_placed l.structs limit l.free (kinds_in (drop l.member-index l.members))
