use Rattle.std.proofs.Common.{◌≡◌, ◌-◌, ◌^◌, min, max, map, drop}
use Rattle.c_check_statements.specs.Waits.{waits_from, waits}
use Rattle.c_check_statements.proofs.waits.+exprs.Given as goal

abbrev pub invariant-of_args-each : goal.invariant-of_args-each
invariant-of_args-each l = min (waits_from 0 (map waits l.args)) (2 ^ 32 - 1) ≡ max l.count (min (waits_from l.waiting (map waits (drop l.arg-index l.args))) (2 ^ 32 - 1))
