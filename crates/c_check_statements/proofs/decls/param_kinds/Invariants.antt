use Rattle.std.proofs.Common.{◌≡◌, drop}
use Rattle.c_check_statements.specs.Declarations.{param_kinds}
use Rattle.c_check_statements.proofs.Declaring.{behind}
use Rattle.c_check_statements.proofs.decls.param_kinds.Given as goal

abbrev pub invariant-params : goal.invariant-params
invariant-params l = param_kinds l.scope l.params ≡ behind l.kinds (param_kinds l.scope (drop l.param-index l.params))
