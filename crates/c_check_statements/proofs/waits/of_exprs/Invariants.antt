use Rattle.std.proofs.Common.{◌≡◌, ◌-◌, ◌^◌, min, max, map, drop}
use Rattle.c_check_statements.specs.Waits.{most, waits}
use Rattle.c_check_statements.proofs.waits.of_exprs.Given as goal

abbrev pub invariant-each : goal.invariant-each
invariant-each l = min (most (map waits l.exprs)) (2 ^ 32 - 1) ≡ max l.count (min (most (map waits (drop l.expr-index l.exprs))) (2 ^ 32 - 1))
