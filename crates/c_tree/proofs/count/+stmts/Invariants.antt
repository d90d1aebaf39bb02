use Rattle.std.proofs.Common.{◌≡◌, ◌+◌, ◌≤◌, min, map, drop}
use Rattle.c_tree.specs.Count.{total, stmt_nodes}
use Rattle.c_tree.proofs.count.+stmts.Given as goal

abbrev pub invariant-of_stmts-loop-stmt : goal.invariant-of_stmts-loop-stmt
invariant-of_stmts-loop-stmt l = (l.count ≤ 4294967295) × (min (l.count + total (map stmt_nodes (drop l.stmt-index l.stmts))) 4294967295 ≡ min (total (map stmt_nodes l.stmts)) 4294967295)
