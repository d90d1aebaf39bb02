use Rattle.c_types.specs.Types.{built, type_at}
use Rattle.steps_structs.specs.Structs.{depth}
use Rattle.steps_structs.proofs.sizes.+layout.Given as goal

abbrev pub decreases-layout : goal.decreases-layout
decreases-layout l = depth (built (type_at l.types.now) l.shape)
