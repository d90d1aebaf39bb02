use Rattle.std.proofs.Common.{◌≡◌, ◌++◌, drop, map}
use Rattle.c_check_rules.specs.Predeclared.{simple_type}
use Rattle.c_check_rules.proofs.predeclared.simple_types.Given as goal

abbrev pub invariant-all : goal.invariant-all
invariant-all l = l.types ++ map simple_type (drop l.simple-index l.all) ≡ map simple_type l.all
