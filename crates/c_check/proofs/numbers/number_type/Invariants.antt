use Rattle.c_check_rules.specs.Kinds.{core_of}
use Rattle.c_check.proofs.TableLayers.{Layered}
use Rattle.c_check.proofs.numbers.number_type.Given as goal

abbrev pub invariant-layers : goal.invariant-layers
invariant-layers l = Layered l.fn.table l.table l.t (core_of l.kind) l.layers l.i

abbrev pub decreases-layers : goal.decreases-layers
decreases-layers l = l.i
