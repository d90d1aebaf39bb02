use Rattle.std.proofs.Common.{◌≡◌, drop, map}
use Rattle.c_check_statements.specs.Walks.{walk_all}
use Rattle.c_check_statements.specs.Sources.{item}
use Rattle.c_check_statements.proofs.items.read_items.Given as goal

abbrev pub invariant-items : goal.invariant-items
invariant-items l = walk_all (map item l.items) l.initial.state ≡ walk_all (map item (drop l.item-index l.items)) l.state
