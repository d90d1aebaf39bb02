use Rattle.std.proofs.Common.{◌≡◌, ◌≤◌, drop, length}
use Rattle.c_check_rules.specs.Kinds.{shaped, core_of}
use Rattle.c_check_rules.specs.Sizes.{align_in}
use Rattle.c_check_rules.proofs.sizes.align_in.Given as goal

abbrev pub invariant-layers : goal.invariant-layers
invariant-layers l = (l.align ≡ align_in l.structs (shaped (core_of l.kind) (drop l.i l.layers))) × (l.i ≤ length l.layers)

abbrev pub decreases-layers : goal.decreases-layers
decreases-layers l = l.i
