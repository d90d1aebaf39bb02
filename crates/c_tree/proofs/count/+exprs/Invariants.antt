use Rattle.std.proofs.Common.{◌≡◌, ◌+◌, ◌≤◌, min, map, drop}
use Rattle.c_tree.specs.Count.{total, expr_nodes}
use Rattle.c_tree.proofs.count.+exprs.Given as goal

abbrev pub invariant-of_exprs-loop-expr : goal.invariant-of_exprs-loop-expr
invariant-of_exprs-loop-expr l = (l.count ≤ 4294967295) × (min (l.count + total (map expr_nodes (drop l.expr-index l.exprs))) 4294967295 ≡ min (total (map expr_nodes l.exprs)) 4294967295)
