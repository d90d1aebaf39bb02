use Rattle.std.proofs.Common.{◌≡◌, ◌+◌, ◌≤◌, min, map, drop}
use Rattle.c_tree.specs.Count.{total, item_nodes}
use Rattle.c_tree.proofs.count.nodes.Given as goal

abbrev pub invariant-loop-item : goal.invariant-loop-item
invariant-loop-item l = (l.count ≤ 4294967295) × (min (l.count + total (map item_nodes (drop l.item-index l.tree.items))) 4294967295 ≡ min (total (map item_nodes l.tree.items)) 4294967295)
