use Rattle.std.proofs.Common.{◌≡◌, drop, map}
use Rattle.c_check_statements.specs.Walks.{walk_all}
use Rattle.c_check_statements.specs.Statements.{statement}
use Rattle.c_check_statements.proofs.statements.+statements.Given as goal

abbrev pub invariant-read_all-all : goal.invariant-read_all-all
invariant-read_all-all l = walk_all (map statement l.all) l.initial.state ≡ walk_all (map statement (drop l.stmt-index l.all)) l.state
