use Rattle.std.proofs.Common.{◌≡◌, ◌-◌, ◌^◌, min, max, map, drop}
use Rattle.c_check_statements.specs.Waits.{most, waits_init}
use Rattle.c_check_statements.proofs.waits.+inits.Given as goal

abbrev pub invariant-of_inits-each : goal.invariant-of_inits-each
invariant-of_inits-each l = min (most (map waits_init l.inits)) (2 ^ 32 - 1) ≡ max l.count (min (most (map waits_init (drop l.init-index l.inits))) (2 ^ 32 - 1))
