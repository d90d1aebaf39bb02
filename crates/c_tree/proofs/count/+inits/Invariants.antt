use Rattle.std.proofs.Common.{◌≡◌, ◌+◌, ◌≤◌, min, map, drop}
use Rattle.c_tree.specs.Count.{total, init_nodes}
use Rattle.c_tree.proofs.count.+inits.Given as goal

abbrev pub invariant-of_inits-loop-init : goal.invariant-of_inits-loop-init
invariant-of_inits-loop-init l = (l.count ≤ 4294967295) × (min (l.count + total (map init_nodes (drop l.init-index l.inits))) 4294967295 ≡ min (total (map init_nodes l.inits)) 4294967295)
