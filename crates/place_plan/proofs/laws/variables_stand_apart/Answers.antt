use Rattle.std.proofs.Common.{arith}
use Rattle.place_plan.specs.Frames.{nothing_taken, free_after_all}
use Rattle.place_plan.proofs.Ends.{next_enough}
use Rattle.place_plan.proofs.Apart.{stands, apart, privates_apart, next_is_multiple}
use Rattle.place_plan.proofs.laws.variables_stand_apart.Goals as goal

pub returns-clause-aligned : goal.returns-clause-aligned
returns-clause-aligned c = λ structs vs i o v h k. (stands structs (c.sizes_are_multiples.ensures.some structs) nothing_taken vs i o v h k).aligned

pub returns-clause-within : goal.returns-clause-within
returns-clause-within c = λ structs vs i o v h k. let s = stands structs (c.sizes_are_multiples.ensures.some structs) nothing_taken vs i o v h k in
    omega (arith, s.below, next_enough (free_after_all structs nothing_taken vs).byte 16 (omega arith))

pub returns-clause-whole : goal.returns-clause-whole
returns-clause-whole c = λ structs vs. next_is_multiple (free_after_all structs nothing_taken vs).byte 16

pub returns-clause-apart : goal.returns-clause-apart
returns-clause-apart c = λ structs vs i j o p v w lt h k m n. apart structs (c.sizes_are_multiples.ensures.some structs) nothing_taken vs i j o p v w lt h k m n

pub returns-clause-values : goal.returns-clause-values
returns-clause-values c = λ structs vs i j x y v lt h m n. privates_apart structs (c.sizes_are_multiples.ensures.some structs) nothing_taken vs i j x y v lt h m n
