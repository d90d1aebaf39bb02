use Rattle.std.proofs.Common.{◌≡◌, ◌≤◌, drop, length}
use Rattle.c_check_rules.specs.Kinds.{shaped, core_of}
use Rattle.c_check_rules.specs.Sizes.{size_in, is_within}
use Rattle.c_check_rules.proofs.sizes.is_within.Given as goal

abbrev pub invariant-layers : goal.invariant-layers
invariant-layers l = (l.size ≡ size_in l.structs (shaped (core_of l.kind) (drop l.i l.layers))) × (l.within ≡ is_within l.structs (shaped (core_of l.kind) (drop l.i l.layers))) × (l.i ≤ length l.layers)

abbrev pub decreases-layers : goal.decreases-layers
decreases-layers l = l.i
