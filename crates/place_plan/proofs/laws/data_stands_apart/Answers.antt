use Rattle.place_plan.proofs.DataApart.{stands, apart}
use Rattle.place_plan.proofs.laws.data_stands_apart.Goals as goal

pub returns-clause-aligned : goal.returns-clause-aligned
returns-clause-aligned c = λ structs gs i o g h d k. (stands structs (c.sizes_are_multiples.ensures.some structs) 0 gs i o g h d k).aligned

pub returns-clause-within : goal.returns-clause-within
returns-clause-within c = λ structs gs i o g h d k. (stands structs (c.sizes_are_multiples.ensures.some structs) 0 gs i o g h d k).below

pub returns-clause-apart : goal.returns-clause-apart
returns-clause-apart c = λ structs gs i j o p g h lt a b d e m n. apart structs (c.sizes_are_multiples.ensures.some structs) 0 gs i j o p g h lt a b d e m n
