use Rattle.std.proofs.Common.{◌≡◌, ◌+◌, ◌≤◌, min, map, drop}
use Rattle.c_tree.specs.Count.{total, decl_nodes}
use Rattle.c_tree.proofs.count.of_decls.Given as goal

abbrev pub invariant-loop-decl : goal.invariant-loop-decl
invariant-loop-decl l = (l.count ≤ 4294967295) × (min (l.count + total (map decl_nodes (drop l.decl-index l.decls))) 4294967295 ≡ min (total (map decl_nodes l.decls)) 4294967295)
