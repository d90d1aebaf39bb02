use Rattle.std.proofs.Common.{◌≡◌, drop, length}
use Rattle.c_check_rules.specs.Kinds.{shaped, core_of, same_kinds}
use Rattle.c_check_rules.proofs.kinds.same.Given as goal

abbrev pub invariant-layers : goal.invariant-layers
invariant-layers l = (same_kinds l.a l.b ≡ same_kinds (shaped (core_of l.a) (drop l.i l.left)) (shaped (core_of l.b) (drop l.i l.right))) × (length l.left ≡ length l.right)
