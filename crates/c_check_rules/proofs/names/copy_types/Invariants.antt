use Rattle.std.proofs.Common.{◌≡◌, ◌++◌, drop}
use Rattle.c_check_rules.proofs.names.copy_types.Given as goal

abbrev pub invariant-all : goal.invariant-all
invariant-all l = l.copied ++ drop l.kind-index l.all ≡ l.all
