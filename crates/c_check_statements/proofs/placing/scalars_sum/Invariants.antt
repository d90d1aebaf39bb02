use Rattle.std.proofs.Common.{◌≡◌, drop}
use Rattle.c_check_statements.specs.Structs.{kinds_in, scalars_sum}
use Rattle.c_check_statements.proofs.placing.scalars_sum.Given as goal

abbrev pub invariant-members : goal.invariant-members
invariant-members l = scalars_sum l.structs 0 (kinds_in l.members) ≡ scalars_sum l.structs l.scalars (kinds_in (drop l.member-index l.members))
