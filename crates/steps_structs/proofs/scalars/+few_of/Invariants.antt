use Rattle.c_types.specs.Types.{built, type_at}
use Rattle.steps_structs.specs.Structs.{depth}
use Rattle.steps_structs.proofs.scalars.+few_of.Given as goal

abbrev pub decreases-few_of : goal.decreases-few_of
decreases-few_of l = depth (built (type_at l.types.now) l.shape)
