use Rattle.std.proofs.Common.{◌≡◌, ◌+◌, ◌-◌, ◌^◌, ◌≤◌, min, drop}
use Rattle.c_check_statements.specs.Functions.{pointers_in}
use Rattle.c_check_statements.proofs.functions.pointers_in.Given as goal

abbrev pub invariant-params : goal.invariant-params
invariant-params l = (min (pointers_in l.params) (2 ^ 32 - 1) ≡ min (l.count + pointers_in (drop l.param-index l.params)) (2 ^ 32 - 1)) × (l.count ≤ 2 ^ 32 - 1)
