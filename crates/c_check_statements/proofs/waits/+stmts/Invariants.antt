use Rattle.std.proofs.Common.{◌≡◌, ◌-◌, ◌^◌, min, max, map, drop}
use Rattle.c_check_statements.specs.Waits.{most, waits_stmt}
use Rattle.c_check_statements.proofs.waits.+stmts.Given as goal

abbrev pub invariant-of_stmts-each : goal.invariant-of_stmts-each
invariant-of_stmts-each l = min (most (map waits_stmt l.stmts)) (2 ^ 32 - 1) ≡ max l.count (min (most (map waits_stmt (drop l.stmt-index l.stmts))) (2 ^ 32 - 1))
