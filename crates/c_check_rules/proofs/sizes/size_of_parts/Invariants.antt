use Rattle.std.proofs.Common.{◌≡◌, ◌≤◌, drop, length}
use Rattle.c_check_rules.specs.Kinds.{shaped}
use Rattle.c_check_rules.specs.Sizes.{size_in}
use Rattle.c_check_rules.proofs.sizes.size_of_parts.Given as goal

abbrev pub invariant-layers : goal.invariant-layers
invariant-layers l = (l.size ≡ size_in l.structs (shaped l.fn.core (drop l.i l.layers))) × (l.i ≤ length l.layers)

abbrev pub decreases-layers : goal.decreases-layers
decreases-layers l = l.i
