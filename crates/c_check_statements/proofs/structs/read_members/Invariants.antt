use Rattle.std.proofs.Common.{◌≡◌, drop}
use Rattle.c_check_statements.specs.Structs.{gathered}
use Rattle.c_check_statements.proofs.structs.read_members.Given as goal

abbrev pub invariant-decls : goal.invariant-decls
invariant-decls l = gathered l.initial.members l.decls l.initial.state ≡ gathered l.members (drop l.decl-index l.decls) l.state
