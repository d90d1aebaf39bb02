use Rattle.std.proofs.Common.{◌≡◌, drop, map}
use Rattle.c_check_statements.specs.Walks.{walk_all}
use Rattle.c_check_statements.specs.Functions.{parameter}
use Rattle.c_check_statements.proofs.functions.read_parameters.Given as goal

abbrev pub invariant-params : goal.invariant-params
invariant-params l = walk_all (map parameter l.params) l.initial.state ≡ walk_all (map parameter (drop l.param-index l.params)) l.state
