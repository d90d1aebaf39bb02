use Rattle.std.proofs.Common.{refl}
use Rattle.c_tree.proofs.laws.places_count_from_one.Goals as goal

pub returns : goal.returns
returns c = λ file. (refl, refl, refl)
