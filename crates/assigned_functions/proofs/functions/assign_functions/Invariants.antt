use Rattle.std.proofs.Common.{List, ◌++◌, drop}
use Rattle.reg_assign.specs.declared.homes.Homes.{Homes}
use Rattle.assigned_functions.specs.Assigned.{AreAssigned}
use Rattle.assigned_functions.proofs.functions.assign_functions.Given as goal

abbrev pub invariant-functions : goal.invariant-functions
invariant-functions l = (rest : List Homes) → AreAssigned (drop l.f-index l.functions) rest → AreAssigned l.functions (l.all ++ rest)
